-- `log_lines::Line::digit` meets its contract: one byte stands where it was put.
use Rattle.std.proofs.Common.{[], ◌∷◌, arith, refl, length-set}
use Rattle.lists.proofs.Written.{stores}
use Rattle.log_lines.proofs.Line.digit.Goals as goal

pub returns : goal.returns
returns c = record {
  same = refl;
  size = length-set _ _ _;
  stored = stores _ (_ ∷ []) _ (omega (arith, c.requires.0));
  behind = refl;
}

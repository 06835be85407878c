-- `segment_head::put_word` meets its contract: two stores, one behind the other.
use Rattle.std.proofs.Common.{◌/◌, ◌%◌, [], ◌∷◌}
use Rattle.std.proofs.Math.Numerals.{add-one}
use Rattle.lists.proofs.Written.{stores}
use Rattle.segment_head.proofs.put_word.Goals as goal

pub returns : goal.returns
returns c = rw add-one (stores c.args.out.now ((c.args.value / 256 % 256) ∷ (c.args.value % 256) ∷ []) c.args.at c.requires)

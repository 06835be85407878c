-- `log_lines::Line::spaced` meets its contract.
use Rattle.std.proofs.Common.{arith}
use Rattle.log_lines.proofs.Digits.{few_digits, spaced_is}
use Rattle.log_lines.proofs.Line.spaced.Goals as goal

pub decimal-requires : goal.decimal-requires
decimal-requires c =
    omega (arith, c.requires, few_digits c.args.n c.ranges.n.fits, c.text.ensures.behind, c.text.ensures.size)

pub returns : goal.returns
returns c = spaced_is _ c.requires c.ranges.n.fits c.text.ensures c.decimal.ensures

-- `marks::with_mark` meets its contract: a mark that is not set is added by `or`.
use Rattle.marks.proofs.Bits.{mark_or}
use Rattle.marks.proofs.with_mark.Goals as goal

pub returns : goal.returns
returns c = rw c.power.ensures.0 (mark_or c.args.marks c.args.k c.requires.1)

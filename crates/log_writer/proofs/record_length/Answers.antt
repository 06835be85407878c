-- `log_writer::record_length` meets its contract: by its one test.
use Rattle.std.proofs.Common.{le-ltb, lt-ltb}
use Rattle.log_writer.specs.Writing.{record_length}
use Rattle.log_writer.proofs.record_length.Goals as goal

pub returns-then-size-gt-LONGEST : goal.returns-then-size-gt-LONGEST
unfolding record_length
returns-then-size-gt-LONGEST c = simp (lt-ltb _ _ c.if-size-gt-LONGEST.true)

pub returns : goal.returns
unfolding record_length
returns c = simp (le-ltb _ _ c.if-size-gt-LONGEST.false, ← c.front_of.ensures.0)

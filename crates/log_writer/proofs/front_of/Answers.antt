-- `log_writer::front_of` meets its contract: by its one test, which is that of `length_bytes`.
use Rattle.std.proofs.Common.{arith, le-ltb, lt-ltb}
use Rattle.log_records.specs.Written.{length_bytes}
use Rattle.log_writer.proofs.front_of.Goals as goal

pub returns-then-size-lt128 : goal.returns-then-size-lt128
unfolding length_bytes
returns-then-size-lt128 c = (simp (lt-ltb _ _ c.if-size-lt128.true), omega arith)

pub returns : goal.returns
unfolding length_bytes
returns c = (simp (le-ltb _ _ c.if-size-lt128.false), omega arith)

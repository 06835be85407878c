-- `log_writer::groups_of` meets its contract: the groups are those of `length_bytes`, and below 16,384 each is a byte.
use Rattle.std.proofs.Common.{refl, le-ltb, lt-ltb}
use Rattle.log_records.specs.Written.{length_bytes}
use Rattle.log_writer.proofs.groups_of.Goals as goal

pub returns-then-size-lt128 : goal.returns-then-size-lt128
unfolding length_bytes
returns-then-size-lt128 c = (simp (lt-ltb _ _ c.if-size-lt128.true), refl)

pub returns : goal.returns
unfolding length_bytes
returns c = (simp (le-ltb _ _ c.if-size-lt128.false), refl)

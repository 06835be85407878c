-- `log_records::record_within` meets its contract: by the first byte.
use Rattle.std.proofs.Common.{le-ltb, lt-ltb}
use Rattle.log_records.specs.Records.{record_within}
use Rattle.log_records.proofs.record_within.Goals as goal

-- a length of one byte
pub returns-then-first-lt128 : goal.returns-then-first-lt128
unfolding record_within
returns-then-first-lt128 c = simp (← c.wide-first.ensures.0, lt-ltb _ _ c.if-first-lt128.true, ← c.record_from.ensures)

-- a length of two bytes
pub returns : goal.returns
unfolding record_within
returns c = simp (← c.wide-first.ensures.0, le-ltb _ _ c.if-first-lt128.false, ← c.long_record.ensures)

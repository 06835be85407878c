-- `log_records::next_record` meets its contract: the place is at the end, or past it; or a record stands there; or the log is bad.
use Rattle.std.proofs.Common.{le-ltb, lt-ltb, rules}
use Rattle.log_records.specs.Records.{next_record}
use Rattle.log_records.proofs.next_record.Goals as goal

-- at the end, or past it
pub returns-then-log-at : goal.returns-then-log-at
unfolding next_record
returns-then-log-at c = simp (le-ltb _ _ c.if-log-at.true)

pub returns-in_err-record_within : goal.returns-in_err-record_within
unfolding next_record
returns-in_err-record_within c = simp (lt-ltb _ _ c.if-log-at.false, ← c.record_within.ensures, c.in_err-record_within.was) (search rules)

pub returns : goal.returns
unfolding next_record
returns c = simp (lt-ltb _ _ c.if-log-at.false, ← c.record_within.ensures, c.in_ok-record_within.was)

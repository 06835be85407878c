-- The reader holds the log that was passed and stands behind `count` records, and the records that are left make the rest of the log's count
-- (`Counted`). Each record ends behind its place and inside the log, so the bytes that are left fall.
use Rattle.std.proofs.Common.{◌-◌, ◌≡◌, length}
use Rattle.log_reader.proofs.Count.{Counted}
use Rattle.log_reader.proofs.count_records.Given as goal

abbrev pub invariant-loop-count : goal.invariant-loop-count
invariant-loop-count l = record { same : l.reader.log.now ≡ l.log; counted : Counted l.log l.reader.at l.count }

abbrev pub decreases-loop-count : goal.decreases-loop-count
decreases-loop-count l = length l.log - l.reader.at

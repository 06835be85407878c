-- What was read has room in the buffer, which keeps its length; each read but the last fills more of it.
use Rattle.std.proofs.Common.{length, ◌-◌, ◌≡◌, ◌≤◌}
use Rattle.racklog.proofs.read_log.Given as goal

abbrev pub invariant-loop-count : goal.invariant-loop-count
invariant-loop-count g l = record { room : l.count ≤ length l.log; same : length l.log ≡ length l.initial.log }

abbrev pub decreases-loop-count : goal.decreases-loop-count
decreases-loop-count g l = length l.initial.log - l.count

-- The arrays keep their lengths; the bytes put and those still to come are the output's; no more records than bytes were read, and each run
-- puts at most a buffer and comes on by a byte (`Sums`). A run that is not over has come on, so the bytes that are left fall.
use Rattle.std.proofs.Common.{length, ◌-◌}
use Rattle.reading.specs.Desk.{desk}
use Rattle.log_print.proofs.Begins.{Sums}
use Rattle.log_print.proofs.print_runs.Given as goal

abbrev pub invariant-loop-state : goal.invariant-loop-state
invariant-loop-state g l = Sums l.log (desk l.state l.streams l.messages l.response) l.out l.at l.count l.total

abbrev pub decreases-loop-state : goal.decreases-loop-state
decreases-loop-state g l = length l.log - l.at

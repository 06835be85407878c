-- `outside_responses::print_packets` ends: the reader holds the log that was passed, and what is left of it behind the reader's place falls.
use Rattle.std.proofs.Common.{length, ◌-◌, ◌≡◌}
use Rattle.outside_responses.proofs.print_packets.Given as goal

abbrev pub invariant-loop-record : goal.invariant-loop-record
invariant-loop-record g l = l.reader.log.now ≡ l.log

abbrev pub decreases-loop-record : goal.decreases-loop-record
decreases-loop-record g l = length l.log - l.reader.at

-- The loop's invariant: the lines so far stand in the front of the buffer, and the whole run is those lines and the run from the present
-- place on with the room that is left (`Going`). A record's next place is behind it and inside the log, so the bytes from the place on grow fewer.
use Rattle.std.proofs.Common.{◌-◌, length}
use Rattle.reading.specs.Desk.{desk}
use Rattle.log_run.proofs.Running.{Going}
use Rattle.log_run.proofs.run.Given as goal

abbrev pub invariant-loop-out : goal.invariant-loop-out
invariant-loop-out l =
    Going (desk l.initial.state l.initial.stream_memory l.initial.message_memory l.initial.response) l.log l.at l.count l.initial.out
    (desk l.state l.stream_memory l.message_memory l.response) l.place l.number l.out l.used

abbrev pub decreases-loop-out : goal.decreases-loop-out
decreases-loop-out l = length l.log - l.place

-- The loop of `c_loops::run_over`: the desk is fit, there is room for the packets that are left, and what is still to be read makes the whole run.
-- The measure is the packets that there is room for.
use Rattle.reading.specs.Desk.{desk}
use Rattle.c_bursts.specs.Bursts.{run}
use Rattle.c_bursts.proofs.Steps.{Going}
use Rattle.c_loops.proofs.run_over.Given as goal

abbrev pub invariant-loop-stop : goal.invariant-loop-stop
invariant-loop-stop l =
    Going l.pause l.burst l.room
    (run (desk l.initial.state l.initial.stream_memory l.initial.message_memory l.initial.responses) l.initial.reports 0 0)
    (run (desk l.state l.stream_memory l.message_memory l.responses) l.reports l.count l.at)
    l.left

abbrev pub decreases-loop-stop : goal.decreases-loop-stop
decreases-loop-stop l = l.left

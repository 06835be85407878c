-- `c_runs::read_burst` meets its contract: rows 19 and 12, then the run.
use Rattle.std.proofs.Common.{sym, subst}
use Rattle.refusals.proofs.Back.{never_0}
use Rattle.reading.specs.Desk.{Desk, desk}
use Rattle.reading.proofs.Lent.{lent-ready}
use Rattle.c_bursts.specs.Bursts.{run}
use Rattle.c_bursts.specs.Inside.{Room}
use Rattle.c_bursts.proofs.Tests.{refuses, accepted, has_room}
use Rattle.c_runs.proofs.read_burst.Goals as goal
use Rattle.c_runs.proofs.read_burst.Goals.{Start}

-- the desk as it is lent
abbrev lent_to : Start → Desk
lent_to s = desk s.args.state.now s.args.stream_memory.now s.args.message_memory.now s.args.responses.now

-- 19 or 12
pub returns-in-Err : goal.returns-in-Err
returns-in-Err c = refuses _ (lent_to (goal.at.returns-in-Err c).Start) _ _ _ _ c.in-Err.ensures (never_0 c.in-Err.refusal) c.refused.ensures

-- the run: nothing refuses it
pub run_over-requires : goal.run_over-requires
run_over-requires c =
    let d = lent_to (goal.at.run_over-requires c).Start in
    record { fit = (lent-ready d (sym c.in_default.ensures)).fit; space = subst (Room (run d _ 0 0)) (sym c.room_for-room.ensures) (has_room d _) }

pub returns : goal.returns
returns c =
    let d = lent_to (goal.at.returns c).Start in
    accepted _ d _ _ _ _ (sym c.in_default.ensures) c.room_for-room.ensures c.run_over.ensures

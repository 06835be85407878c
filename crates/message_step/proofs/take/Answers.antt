-- `message_step::take` meets its contract: rows 20 to 22, then by the kind of message: alone, or rows 23 to 25 and the context that they leave.
use Rattle.std.proofs.Common.{sym}
use Rattle.refusals.proofs.Back.{never_0}
use Rattle.messages.proofs.Laws.{step_refused, chosen_refused, chosen-placed}
use Rattle.message_step.proofs.take.Goals as goal

-- rows 20 to 22
pub returns-in-Err : goal.returns-in-Err
returns-in-Err c =
    let t = c.refuse.ensures in
    (step_refused _ _ _ _ _ _ c.in-Err.ensures (never_0 _) t.0, t.1, t.2)

-- rows 23 to 25
pub returns-in-Err-choose : goal.returns-in-Err-choose
returns-in-Err-choose c =
    let t = c.refuse-in-Err-choose.ensures in
    (chosen_refused _ _ _ _ _ (sym c.in_default.ensures) _ _ c.in-Err-choose.ensures c.status_of-status.ensures t.0, t.1, t.2)

-- placed in the context chosen
pub returns-in-Ok : goal.returns-in-Ok
returns-in-Ok c =
    let t = c.place.ensures in
    (chosen-placed _ _ _ _ _ (sym c.in_default.ensures) _ c.in-Ok.ensures t.0, t.1, t.2)

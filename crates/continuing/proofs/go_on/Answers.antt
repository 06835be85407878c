-- `continuing::go_on` meets its contract: row 8, then in the flow's own context.
use Rattle.stream_rooms.proofs.Laws.{joined_told}
use Rattle.streams.proofs.Laws.{go_closed}
use Rattle.continuing.proofs.go_on.Goals as goal

-- 8: the flow is not open
pub returns-in_default : goal.returns-in_default
returns-in_default c =
    let on = c.requires.fields.1 in
    joined_told c.refusal.ensures (go_closed _ _ _ _ on.start on.passed c.in_default.is)

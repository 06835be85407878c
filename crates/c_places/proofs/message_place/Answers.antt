-- `c_places::message_place` meets its contract: nowhere without a state, else the room's place.
use Rattle.std.proofs.Common.{ap, sym, ◌∙◌}
use Rattle.c_places.specs.Places.{place_of}
use Rattle.c_places.proofs.Laws.{message_nowhere, message_there}
use Rattle.c_places.proofs.message_place.Goals as goal

-- no state, or one that 19 names
pub returns-then-is_err : goal.returns-then-is_err
returns-then-is_err c =
    c.nowhere.ensures ∙ ap place_of (message_nowhere _ _ c.state_refusal.ensures _ _ _ (sym c.is_err.ensures.value ∙ c.if-is_err.true))

-- the room's place
pub returns : goal.returns
returns c =
    c.room_at.ensures ∙ ap place_of (message_there _ _ c.state_refusal.ensures _ _ _ (sym c.is_err.ensures.value ∙ c.if-is_err.false))

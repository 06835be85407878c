-- `room_parts::message_room` meets its contract: an empty part where there is no state, else the part of the room.
use Rattle.std.proofs.Common.{◌≡◌, refl, sym, ◌∙◌, rules}
use borrow.Author.Tests.{ne_eqb}
use Rattle.refusals.specs.Numbers.{row_number}
use Rattle.refusals.proofs.Back.{never_0}
use Rattle.lent_state.specs.Lent.{state_refusal}
use Rattle.room_parts.specs.Parts.{message_room}
use Rattle.room_parts.proofs.Laws.{ranged}
use Rattle.room_parts.proofs.message_room.Goals as goal

-- no state, or one that 19 names
pub returns-in-Err : goal.returns-in-Err
unfolding message_room
returns-in-Err c = ranged _ _ 0 0 _ (rw (← c.in-Err.ensures, ne_eqb (row_number c.in-Err.field-0) 0 (never_0 c.in-Err.field-0))) refl (search rules) refl

-- the part of the room
pub returns-in-Ok : goal.returns-in-Ok
unfolding message_room
returns-in-Ok c =
    let fine : state_refusal c.args.state.now ≡ 0 = sym c.in-Ok.ensures in
    rw fine c.room_part.ensures

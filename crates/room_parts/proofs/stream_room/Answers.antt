-- `room_parts::stream_room` meets its contract: an empty part where there is no state, else the part of the room.
use Rattle.std.proofs.Common.{◌≡◌, refl, sym, ◌∙◌, arith, rules}
use borrow.Author.Tests.{ne_eqb}
use Rattle.refusals.specs.Numbers.{row_number}
use Rattle.refusals.proofs.Back.{never_0}
use Rattle.contexts.specs.Words.{state_of}
use Rattle.lent_state.specs.Lent.{state_refusal}
use Rattle.lent_state.proofs.Lent.{state_there}
use Rattle.refusal19.proofs.Good.{good}
use Rattle.room_parts.specs.Parts.{stream_room}
use Rattle.room_parts.proofs.Laws.{ranged}
use Rattle.room_parts.proofs.stream_room.Goals as goal

-- no state, or one that 19 names
pub returns-in-Err : goal.returns-in-Err
unfolding stream_room
returns-in-Err c = ranged _ _ 0 0 _ (rw (← c.in-Err.ensures, ne_eqb (row_number c.in-Err.field-0) 0 (never_0 c.in-Err.field-0))) refl (search rules) refl

pub room-requires : goal.room-requires
room-requires c = (state_there _ (sym c.in-Ok.ensures)).0

-- R is small
pub room_part-requires : goal.room_part-requires
room_part-requires c =
    let fine : state_refusal c.args.state.now ≡ 0 = sym c.in-Ok.ensures in
    (omega arith, rw c.room.ensures (good (state_of _) (state_there _ fine).1).room)

-- the part of the room
pub returns-in-Ok : goal.returns-in-Ok
unfolding stream_room
returns-in-Ok c =
    let fine : state_refusal c.args.state.now ≡ 0 = sym c.in-Ok.ensures in
    rw (fine, ← c.room.ensures) c.room_part.ensures

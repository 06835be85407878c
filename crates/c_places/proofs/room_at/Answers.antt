-- `c_places::room_at` meets its contract: each return follows from the test on the way.
use Rattle.std.proofs.Common.{sym, ◌∙◌, arith}
use Rattle.lent_state.proofs.Lent.{room-inside}
use Rattle.c_places.proofs.room_at.Goals as goal

-- the room lies inside the memory
pub overflow_mul-result : goal.overflow_mul-result
overflow_mul-result c =
    let a = c.args in
    omega (arith, room-inside a.rooms a.room a.size a.n a.l (sym c.has_room.ensures ∙ c.if-has_room.true))

-- `room_parts::room_part` meets its contract: a room that the test lets through ends inside the memory.
use Rattle.std.proofs.Common.{◌≡◌, ◌+◌, ◌-◌, ◌*◌, ◌≤◌, refl, ap, sym, ◌∙◌, length, arith, rules}
use Rattle.lent_state.proofs.Lent.{room-inside}
use Rattle.room_parts.specs.Parts.{part}
use Rattle.room_parts.proofs.Laws.{no_room, a_room, ranged}
use Rattle.room_parts.proofs.room_part.Goals as goal
use Rattle.room_parts.proofs.room_part.Goals.{Then-has_room}

ends : (c : Then-has_room) → let a = c.args in a.n * a.room + a.l ≤ length a.memory.now
ends c = let a = c.args in room-inside a.rooms a.room _ a.n a.l (sym c.has_room.ensures ∙ c.if-has_room.true)

pub overflow_mul-at : goal.overflow_mul-at
overflow_mul-at c = omega (arith, ends (goal.at.overflow_mul-at c).Then-has_room)

pub overflow_add-end : goal.overflow_add-end
overflow_add-end c = omega (arith, ends (goal.at.overflow_add-end c).Then-has_room)

pub slice_bounds-result-end : goal.slice_bounds-result-end
slice_bounds-result-end c = omega (arith, ends (goal.at.slice_bounds-result-end c).Then-has_room)

-- that room
pub returns-then-has_room : goal.returns-then-has_room
returns-then-has_room c =
    let a = c.args in
    let at = a.n * a.room in
    let size : at + a.l - at ≡ a.l = omega arith in
    ranged _ _ at (at + a.l) _ (ap (part at) size ∙ a_room _ _ _ _ _ (sym c.has_room.ensures ∙ c.if-has_room.true)) refl (search rules) refl

-- no room
pub returns : goal.returns
returns c = ranged _ _ 0 0 _ (no_room _ _ _ _ _ (sym c.has_room.ensures ∙ c.if-has_room.false)) refl (search rules) refl

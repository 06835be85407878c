-- `lent_state::has_room` meets its contract: each return follows from the tests on the way.
use Rattle.lent_state.proofs.Lent.{other_size, past_last_lem, by_length}
use Rattle.lent_state.proofs.has_room.Goals as goal

-- a memory of another size
pub returns-then-size-rooms : goal.returns-then-size-rooms
returns-then-size-rooms c = other_size _ _ _ _ _ c.if-size-rooms.true

-- past the last room
pub returns-then-rooms-n : goal.returns-then-rooms-n
returns-then-rooms-n c = past_last_lem _ _ _ _ _ c.if-size-rooms.false c.if-rooms-n.true

pub returns : goal.returns
returns c = by_length _ _ _ _ _ c.if-size-rooms.false c.if-rooms-n.false

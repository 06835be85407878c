-- `bad_streams::bad_room` meets its contract: each return follows from the tests on the way.
use Rattle.refusal19.specs.Refusal19.{bad_room}
use borrow.Author.Tests.{le-ltb, lt-ltb}
use Rattle.bad_streams.proofs.bad_room.Goals as goal

pub returns-then-room-mtu : goal.returns-then-room-mtu
unfolding bad_room
returns-then-room-mtu c = simp (lt-ltb _ _ c.if-room-mtu.true)

pub returns : goal.returns
unfolding bad_room
returns c = simp (le-ltb _ _ c.if-room-mtu.false)

-- `lent_state::named_by_19` meets its contract: the four parts of 19, in the paper's order.
use Rattle.refusal19.specs.Refusal19.{named_by_19}
use Rattle.lent_state.proofs.named_by_19.Goals as goal

-- the MTU
pub returns-then-bad_mtu : goal.returns-then-bad_mtu
unfolding named_by_19
returns-then-bad_mtu c =
    simp (← c.mtu-m.ensures, ← c.room-r.ensures, ← c.bad_mtu.ensures, c.if-bad_mtu.true)

-- R
pub returns-then-bad_room : goal.returns-then-bad_room
unfolding named_by_19
returns-then-bad_room c =
    simp (
      ← c.mtu-m.ensures,
      ← c.room-r.ensures,
      ← c.bad_mtu.ensures,
      c.if-bad_mtu.false,
      ← c.bad_room.ensures,
      c.if-bad_room.true,
    )

-- a stream context
pub returns-then-any_bad_stream : goal.returns-then-any_bad_stream
unfolding named_by_19
returns-then-any_bad_stream c =
    simp (
      ← c.mtu-m.ensures,
      ← c.room-r.ensures,
      ← c.bad_mtu.ensures,
      c.if-bad_mtu.false,
      ← c.bad_room.ensures,
      c.if-bad_room.false,
      ← c.any_bad_stream.ensures,
      c.if-any_bad_stream.true,
    )

-- a message context, or none
pub returns : goal.returns
unfolding named_by_19
returns c =
    simp (
      ← c.mtu-m.ensures,
      ← c.room-r.ensures,
      ← c.bad_mtu.ensures,
      c.if-bad_mtu.false,
      ← c.bad_room.ensures,
      c.if-bad_room.false,
      ← c.any_bad_stream.ensures,
      c.if-any_bad_stream.false,
      ← c.any_bad_message.ensures,
    )

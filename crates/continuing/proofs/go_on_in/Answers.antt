-- `continuing::go_on_in` meets its contract: row 9, then an end by its length, a continuation behind what the context holds.
use native.Mathlib.Omega.{arith}
use Rattle.contexts.proofs.Words.{sixteen}
use Rattle.stream_rooms.specs.Inside.{stream_for}
use Rattle.stream_rooms.proofs.Laws.{ends_by}
use Rattle.streams.proofs.Laws.{total_le, own_flow, no_length, go_passes, go_placed}
use Rattle.continuing.proofs.go_on_in.Goals as goal

-- what the context holds is at most R, and the data at most the MTU
pub overflow_add-total : goal.overflow_add-total
overflow_add-total c =
    omega (arith, total_le _ _ c.requires.ready.good c.requires.fields.1.passed (sixteen c.args.state.now) c.held_of-held.ensures)

-- 9: the total would pass R
pub returns-then-room-total : goal.returns-then-room-total
returns-then-room-total c =
    let on = c.requires.fields.1 in
    let t = c.refused_closing.ensures in
    (go_passes _ _ _ _ on.start on.passed c.held_of-held.ensures c.room.ensures c.if-room-total.true t.0, t.1)

-- an end
pub end-requires-clause-from_value : goal.end-requires-clause-from_value
end-requires-clause-from_value c =
    let fields = c.requires.fields.0 in (
      fields.data_from_lem,
      fields.sender,
      record {
        continues = c.requires.fields.1;
        so_far = c.held_of-held.ensures;
        behind = rw (← c.room.ensures) c.if-room-total.false;
        kind = ends_by _ _ fields.flag_bits c.bit.ensures c.if-bit.true;
      },
    )

-- a continuation
pub hold_room-requires-clause-from_value : goal.hold_room-requires-clause-from_value
hold_room-requires-clause-from_value c =
    let fields = c.requires.fields.0 in
    let q = c.requires.fields.1.passed in (
      fields.data_from_lem,
      record {
        fits = record { context = q.flow.1; size = q.size; within = q.within; behind = rw (← c.room.ensures) c.if-room-total.false };
        own = own_flow _ (stream_for c.args.state.now c.args.packet.now) q.flow (sixteen c.args.state.now);
        kind = ends_by _ _ fields.flag_bits c.bit.ensures c.if-bit.false;
      },
    )

pub returns : goal.returns
returns c =
    let on = c.requires.fields.1 in
    let t = c.hold_room.ensures in (
      go_placed _ _ _ _ on.start on.passed c.held_of-held.ensures c.room.ensures c.if-room-total.false
          (no_length (stream_for c.args.state.now c.args.packet.now) _ (ends_by _ _ c.requires.fields.0.flag_bits c.bit.ensures c.if-bit.false)) t.0,
      t.1,
    )

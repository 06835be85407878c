-- `ending::end` meets its contract: row 11, else the PDU is whole and delivered.
use mathlib.Core.Path.{refl}
use native.Mathlib.Omega.{arith}
use borrow.Author.Tests.{eq-eqb, ne_eqb}
use Rattle.contexts.proofs.Words.{sixteen}
use Rattle.stream_rooms.specs.Inside.{stream_for}
use Rattle.streams.proofs.Laws.{own_flow, end-from, length_by, go_differs, go_placed}
use Rattle.ending.proofs.end.Goals as goal

-- an end has its field, before its data
pub overflow_sub-head : goal.overflow_sub-head
overflow_sub-head c =
    omega (arith, end-from _ _ c.requires.from_value.2.kind, c.requires.from_value.0)

pub word_at-requires : goal.word_at-requires
word_at-requires c =
    omega (arith, end-from _ _ c.requires.from_value.2.kind, c.requires.from_value.0, c.requires.ready.inside)

-- 11: the total differs from the PDU length
pub returns-then-held-count : goal.returns-then-held-count
returns-then-held-count c =
    let ends = c.requires.from_value.2 in
    let on = ends.continues in
    let t = c.refused_closing.ensures in (
      go_differs _ _ _ _ on.start on.passed ends.so_far refl ends.behind
          (length_by _ _ ends.kind _ c.requires.from_value.0 c.word_at.ensures.0 c.pdu_length.ensures (rw (ne_eqb _ _ c.if-held-count.true))) t.0,
      t.1,
    )

-- whole
pub end_room-requires-clause-from_value : goal.end_room-requires-clause-from_value
end_room-requires-clause-from_value c =
    let ends = c.requires.from_value.2 in
    let q = ends.continues.passed in (
      c.requires.from_value.0,
      c.requires.from_value.1,
      record {
        fits = record { context = q.flow.1; size = q.size; within = q.within; behind = ends.behind };
        own = own_flow _ (stream_for c.args.state.now c.args.packet.now) q.flow (sixteen c.args.state.now);
        kind = ends.kind;
      },
    )

pub returns : goal.returns
returns c =
    let ends = c.requires.from_value.2 in
    let on = ends.continues in
    let t = c.end_room.ensures in (
      go_placed _ _ _ _ on.start on.passed ends.so_far refl ends.behind
          (length_by _ _ ends.kind _ c.requires.from_value.0 c.word_at.ensures.0 c.pdu_length.ensures (rw (eq-eqb _ _ c.if-held-count.false))) t.0,
      t.1,
    )

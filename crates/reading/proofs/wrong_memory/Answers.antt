-- `reading::wrong_memory` meets its contract: each return follows from the tests on the way; 16 R fits, since R is at most 65,536.
use Rattle.std.proofs.Common.{sym, ◌∙◌, arith}
use borrow.Author.Tests.{eq-eqb, ne_eqb}
use Rattle.contexts.specs.Words.{state_of}
use Rattle.refusal19.proofs.Good.{good}
use Rattle.wire.proofs.Widths.{wide_is, narrow_is}
use Rattle.reading.specs.Table.{wrong_sizes}
use Rattle.reading.proofs.Laws.{by_reply}
use Rattle.reading.proofs.wrong_memory.Goals as goal

pub overflow_mul-room : goal.overflow_mul-room
overflow_mul-room c =
    let g = good (state_of c.args.state.now) c.requires.1 in
    omega (arith, g.room, c.room.ensures)

-- the stream memory
pub returns-then-stream_memory-room : goal.returns-then-stream_memory-room
unfolding wrong_sizes
returns-then-stream_memory-room c = simp (← c.room.ensures, ne_eqb _ _ c.if-stream_memory-room.true)

-- the message memory
pub returns-then-message_memory-ne-MEMORY : goal.returns-then-message_memory-ne-MEMORY
unfolding wrong_sizes
returns-then-message_memory-ne-MEMORY c = simp (← c.room.ensures, eq-eqb _ _ c.if-stream_memory-room.false, ne_eqb _ _ c.if-message_memory-ne-MEMORY.true)

-- the response buffer, at 16 bits
pub returns-then-narrow-eq0 : goal.returns-then-narrow-eq0
returns-then-narrow-eq0 c =
    by_reply _ c.room.ensures c.if-stream_memory-room.false c.if-message_memory-ne-MEMORY.false
    (wide_is _ (sym c.narrow.ensures ∙ c.if-narrow-eq0.true)) c.size.ensures

-- and at 8
pub returns : goal.returns
returns c =
    by_reply _ c.room.ensures c.if-stream_memory-room.false c.if-message_memory-ne-MEMORY.false
    (narrow_is _ (λ z. c.if-narrow-eq0.false (c.narrow.ensures ∙ z))) c.size-2.ensures

-- What the delivery of a message leaves: row 25 leaves a context below 8, row 21 with 19 a length of at most 16 segments of 256 bytes, and row 20 with
-- 21 one byte at least.
use Prim.Native.Nat.{ℕ, ◌+◌, ◌*◌, ◌≤◌, ◌<◌}
use mathlib.Core.Path.{◌≡◌, refl, ap, sym, ◌∙◌}
use mathlib.Core.List.{List}
use mathlib.Core.Bool.{Bool, true, false, cond, not}
use native.Mathlib.Omega.{arith}
use native.Mathlib.Nat.{mul-le-mul_right}
use lib.ListN.{length, get_or, length-drop}
use lib.Dec.{eqb, leb}
use borrow.Author.Tests.{eqb-true, eqb-false, leb-true, ltb-true, not-false}
use Rattle.lists.proofs.Written.{length-written}
use Rattle.answers.specs.Answers as answers
use Rattle.tables.specs.Refusals.{Leaves, all, flow_closed, all_error, all_retry, Verdict, refuse, accept, verdict, none, given}
use Rattle.tables.proofs.Exactly.{none-held}
use Rattle.wire.specs.declared.Flow.{Flow}
use Rattle.wire.specs.Packet.{header}
use Rattle.wire.specs.Head.{is9, is11, head_rows}
use Rattle.wire.specs.declared.MessageSegment.{MessageSegment}
use Rattle.wire.specs.Type11.{message_data_from, message_of, is_single, is_last, mailbox}
use Rattle.sizes.specs.Sizes.{bytes_of, in_eights}
use Rattle.sizes.proofs.Laws.{bytes_le}
use Rattle.rules.specs.Messages.{reserved_size, bad_length, form_rows, last_with}
use Rattle.rules.proofs.Laws.{raw_le, last_with_le}
use Rattle.wire.specs.declared.Setup.{Setup}
use Rattle.contexts.specs.State.{State, ids_in, free_message, message_in, message_context}
use Rattle.contexts.proofs.Words.{eight}
use Rattle.refusal19.proofs.Good.{good, message_found_lem}
use Rattle.stream_rooms.specs.Placing as placing
use Rattle.streams.specs.Joining as stream
use Rattle.message_rooms.specs.Placing as boxes
use Rattle.message_rooms.proofs.Laws.{product_le, segment-ends}
use Rattle.messages.specs.Rows.{message_found, message_open, needed_none_free, message_rows}
use Rattle.messages.specs.Joining as message
use Rattle.messages.proofs.Laws.{last_le}
use Rattle.streams.specs.Rows.{stream_rows}
use Rattle.reading.specs.Table.{Lent, state_in, segment_in, message_segment_in, lent_rows, table}
use Rattle.reading.specs.Read.{of_stream, of_message, refusing, accepting, outcome, reading}
use Rattle.reading.specs.Good.{StillGood}
use Rattle.lists.proofs.Tests.{by_test, both}
use Rattle.reading.proofs.Kept.{stays_good, other_type}
use Rattle.flows.proofs.Quiet.{free_there, single_shut}
use Rattle.sending.proofs.Measured.{Delivers, row-passed, of_type, was_ready}

-- the answer delivers no message
abbrev NoMessage : answers.Said → Type 0
NoMessage says = (context source letter box size : ℕ) → says ≡ answers.message context source letter box size → ⊥

refused_none : (number : ℕ) → NoMessage (answers.refused number)
refused_none number context source letter box size e = let z : ◌≡◌ {A = ℕ} 0 1 = cc in omega arith

held_none : NoMessage answers.held
held_none context source letter box size e = let z : ◌≡◌ {A = ℕ} 0 1 = cc in omega arith

-- refused, nothing is delivered
leaving_none : (x : Lent) (number : ℕ) (leaves : Leaves) → NoMessage (refusing x number leaves).says
unfolding stream.refused_closing
leaving_none x number all = refused_none number
leaving_none x number flow_closed = refused_none number
leaving_none x number all_error = refused_none number
leaving_none x number all_retry = refused_none number

-- nor is a message by a type 9 packet
answer_none : (ends : Bool) (n : ℕ) (flow : Flow) (stream total : ℕ) → NoMessage (cond ends (answers.delivered n flow stream total) answers.held)
answer_none true n flow stream total context source letter box size e = let z : ◌≡◌ {A = ℕ} 0 1 = cc in omega arith
answer_none false n flow stream total context source letter box size e = held_none context source letter box size e

stream_none : (x : Lent) → NoMessage (stream.accepted (state_in x) x.desk.stream_memory x.packet (segment_in x)).says
unfolding stream.accepted placing.placed
stream_none x = answer_none (segment_in x).ends _ _ _ _

-- a segment that rows 20 and 21 pass has a byte
raw_some : (m : MessageSegment) → reserved_size m ≡ false → bad_length m ≡ false → 1 ≤ m.raw
unfolding reserved_size bad_length in_eights
raw_some m r b = go (is_last m) b
  where
    go : (t : Bool) → cond t (not (in_eights m.raw (bytes_of m.ssize))) (not (eqb m.raw (bytes_of m.ssize))) ≡ false → 1 ≤ m.raw
    go true e = let eight = leb-true 8 m.raw (both (leb 8 m.raw) _ (not-false _ e)).0 in omega arith
    go false e =
        let same = eqb-true m.raw (bytes_of m.ssize) (not-false _ e) in
        let some = eqb-false (bytes_of m.ssize) 0 r in
        omega (arith, same, some)

-- what a message leaves: a memory of its size, and where it delivers, a context below 8 and a length of 1 to 4,096
record InBox (j : boxes.MessageJoined) : Type 0 where
  size-kept : length j.memory ≡ 32768
  delivers : (context source letter box size : ℕ) → j.says ≡ answers.message context source letter box size → (context < 8) × (1 ≤ size) × (size ≤ 4096)

module _ (x : Lent) (passed : none (table x)) (eleven : is11 x.packet ≡ true) (small : get_or x.packet (header (ids_in (state_in x))) 0 < 256) where
  abbrev s : State
  s = state_in x

  abbrev m : MessageSegment
  m = message_segment_in x

  abbrev memory : List ℕ
  memory = x.desk.message_memory

  -- row 12
  size_is : length memory ≡ 32768
  size_is = (was_ready x passed).fit.boxes

  few : (m.msglen < 16) × (m.msgseg < 16)
  unfolding message_of
  few = (omega (arith, small), omega arith)

  data_length_lem : length (boxes.message_data (ids_in s) x.packet) ≡ m.raw
  unfolding message_of
  data_length_lem = length-drop (message_data_from (ids_in s)) x.packet

  row_20 : reserved_size m ≡ false
  unfolding table lent_rows head_rows given stream_rows message_rows form_rows
  row_20 = of_type (is11 x.packet) _ eleven (row-passed 20 (table x) passed)

  good_length : bad_length m ≡ false
  unfolding table lent_rows head_rows given stream_rows message_rows form_rows
  good_length = of_type (is11 x.packet) _ eleven (row-passed 21 (table x) passed)

  row_21 : m.raw ≤ bytes_of m.ssize
  row_21 = raw_le m good_length

  some_raw : 1 ≤ m.raw
  some_raw = raw_some m row_20 good_length

  row_25 : needed_none_free s m ≡ false
  unfolding table lent_rows head_rows given stream_rows message_rows form_rows
  row_25 = of_type (is11 x.packet) _ eleven (row-passed 25 (table x) passed)

  alone_in : (n : ℕ) → n < 8 → InBox (message.delivered_at_once s memory x.desk.response x.packet m n)
  unfolding message.delivered_at_once
  alone_in n below = record {
    size-kept = length-written memory (boxes.message_data (ids_in s) x.packet) (n * 4096) (omega (arith, data_length_lem, row_21, bytes_le m.ssize, size_is)) ∙ size_is;
    delivers = λ context source letter box size e.
        let same_context : n ≡ context = cc in
        let same_size : m.raw ≡ size = cc in
        (omega arith, omega (arith, some_raw), omega (arith, row_21, bytes_le m.ssize));
  }

  placed_in : (n marks last : ℕ) → is_single m ≡ false → n < 8 → last ≤ 256 → InBox (boxes.message_placed s memory x.desk.response x.packet m n marks last)
  unfolding boxes.message_placed
  placed_in n marks last several below short = record {
    size-kept =
        length-written memory (boxes.message_data (ids_in s) x.packet) (n * 4096 + m.msgseg * bytes_of m.ssize)
        (omega (arith, data_length_lem, size_is, segment-ends n m.msgseg (bytes_of m.ssize) m.raw below few.1 (bytes_le m.ssize) row_21)) ∙ size_is;
    delivers = λ context source letter box size. go (boxes.complete m (boxes.marks_with m marks)) context source letter box size;
  }
    where
      total : ℕ
      total = m.msglen * bytes_of m.ssize + last_with m last

      total_le : total ≤ 4096
      total_le = omega (arith, product_le m.msglen (bytes_of m.ssize) few.0 (bytes_le m.ssize), last_with_le m last short (omega (arith, row_21, bytes_le m.ssize)))

      -- segment 0 is a full one
      total-some : 1 ≤ total
      total-some =
          let none = eqb-false m.msglen 0 several in
          let more : 1 ≤ m.msglen = omega (arith, none) in
          let full = mul-le-mul_right (bytes_of m.ssize) more in
          omega (arith, full, some_raw, row_21)

      go : (t : Bool) (context source letter box size : ℕ) → cond t (answers.message n m.source m.letter (mailbox m) total) answers.held ≡ answers.message context source letter box size
          → (context < 8) × (1 ≤ size) × (size ≤ 4096)
      go true context source letter box size e =
          let same_context : n ≡ context = cc in
          let same_size : total ≡ size = cc in
          (omega arith, omega (arith, total-some), omega (arith, total_le))
      go false context source letter box size e = absurd (held_none context source letter box size e)

  -- what the open message has kept
  found_last : is_single m ≡ false → message_open s m ≡ true → (message_in s (message_found s m)).last ≤ 256
  unfolding message_found
  found_last several o =
      let found-is : message_found s m ≡ message_context s m.source m.letter m.mbox = rw several in
      let below : message_found s m < 8 = ltb-true (message_found s m) 8 o in
      rw found-is (last_le (message_in s (message_context s m.source m.letter m.mbox))
      (message_found_lem s m.source m.letter m.mbox (good s (was_ready x passed).fit.good) (omega (arith, found-is, eight x.desk.words))).kept)

  accepted_in : InBox (message.message_accepted s memory x.desk.response x.packet m)
  unfolding message.message_accepted
  accepted_in =
      by_test (is_single m) (λ t. rw t (alone_in (free_message s) (free_there s m row_25 (single_shut s m t))))
      (λ t. by_test (message_open s m)
      (λ o. rw (t, o) (placed_in (message_found s m) _ _ t (ltb-true (message_found s m) 8 o) (found_last t o)))
      (λ o. rw (t, o) (placed_in (free_message s) 0 0 t (free_there s m row_25 o) (omega arith))))

  -- everything lent fits again
  message_delivers : StillGood s (of_message x (message.message_accepted s memory x.desk.response x.packet m)).desk.words
      → (context source letter box size : ℕ) → (message.message_accepted s memory x.desk.response x.packet m).says ≡ answers.message context source letter box size
      → Delivers 8 4096 (of_message x (message.message_accepted s memory x.desk.response x.packet m)) context size
  message_delivers kept context source letter box size e =
      let ends = accepted_in.delivers context source letter box size e in
      record {
        fit = record {
          whole = kept.whole;
          good = kept.good;
          rooms = (was_ready x passed).fit.rooms ∙ ap (λ (t : Setup). 16 * t.room) (sym kept.setup);
          boxes = accepted_in.size-kept;
        };
        below = ends.0;
        some_byte = ends.1;
        within = ends.2;
      }

pub delivers_message : (x : Lent) (context source letter box size : ℕ) → get_or x.packet (header (ids_in (state_in x))) 0 < 256 → (reading x).says ≡ answers.message context source letter box size
    → Delivers 8 4096 (reading x) context size
unfolding reading
delivers_message x context source letter box size small = by_verdict_lem (verdict (table x)) refl
  where
    kept_by : none (table x) → StillGood (state_in x) (reading x).desk.words
    kept_by passed = stays_good x (was_ready x passed).fit.whole (was_ready x passed).fit.good small

    by_type : (t : Bool) → is9 x.packet ≡ t → none (table x)
        → StillGood (state_in x) (cond t (of_stream x (stream.accepted (state_in x) x.desk.stream_memory x.packet (segment_in x)))
        (of_message x (message.message_accepted (state_in x) x.desk.message_memory x.desk.response x.packet (message_segment_in x)))).desk.words
        → (cond t (of_stream x (stream.accepted (state_in x) x.desk.stream_memory x.packet (segment_in x)))
        (of_message x (message.message_accepted (state_in x) x.desk.message_memory x.desk.response x.packet (message_segment_in x)))).says ≡ answers.message context source letter box size
        → Delivers 8 4096 (cond t (of_stream x (stream.accepted (state_in x) x.desk.stream_memory x.packet (segment_in x)))
        (of_message x (message.message_accepted (state_in x) x.desk.message_memory x.desk.response x.packet (message_segment_in x)))) context size
    by_type true nine passed kept e = absurd (stream_none x context source letter box size e)
    by_type false nine passed kept e = message_delivers x passed (other_type x passed nine) small kept context source letter box size e

    by_verdict_lem : (v : Verdict) → verdict (table x) ≡ v → (outcome x v).says ≡ answers.message context source letter box size → Delivers 8 4096 (outcome x v) context size
    by_verdict_lem (refuse number leaves) e d = absurd (leaving_none x number leaves context source letter box size d)
    by_verdict_lem accept e d =
        let passed = none-held (table x) e in
        let kept : StillGood (state_in x) (accepting x).desk.words = rw e at (kept_by passed) in
        by_type (is9 x.packet) refl passed kept d

-- What a delivery leaves: rows 19 and 12 leave a good state and memories of their sizes, rows 8 and 10 a context below 16, row 9 a total of at
-- most R; and row 6 one byte at least. So no room reaches past the memory, and the length in an answer is that of the bytes that lie in its room, whatever the desk.
use Prim.Native.Nat.{ℕ, ◌+◌, ◌*◌, ◌≤◌, ◌<◌}
use mathlib.Core.Path.{◌≡◌, refl, ap, sym, ◌∙◌}
use mathlib.Core.List.{List, [], ◌∷◌}
use mathlib.Core.Bool.{Bool, true, false, cond, not, ◌&&◌, false≢true}
use native.Mathlib.Omega.{arith}
use lib.ListN.{length, length-take, length-set}
use lib.Dec.{eqb, ltb}
use borrow.Author.Tests.{eqb-true, ltb-true, ltb-false, not-false}
use Rattle.lists.proofs.Tests.{neither}
use Rattle.answers.specs.Answers as answers
use Rattle.tables.specs.Refusals.{Row, Leaves, all, flow_closed, all_error, all_retry, Verdict, refuse, accept, verdict, none, given}
use Rattle.tables.proofs.Exactly.{none-held}
use Rattle.wire.specs.declared.Flow.{Flow}
use Rattle.wire.specs.Segment.{Segment}
use Rattle.wire.specs.declared.MessageSegment.{MessageSegment}
use Rattle.wire.specs.Type11.{is_single, mailbox}
use Rattle.wire.specs.Head.{is9, head_rows}
use Rattle.sizes.specs.Sizes.{bytes_of, data_length}
use Rattle.rules.specs.Segments.{malformed}
use Rattle.rules.specs.Messages.{last_with, form_rows}
use Rattle.messages.specs.Rows.{message_found as found, message_open, message_rows}
use Rattle.wire.specs.declared.Setup.{Setup}
use Rattle.contexts.specs.State.{State, free_stream, free_message, message_in}
use Rattle.contexts.specs.Words.{state_words}
use Rattle.refusal19.specs.Refusal19.{named_by_19}
use Rattle.streams.specs.Rows.{found_for, flow_open, held_before, total, not_open, passes_room, none_free, stream_rows}
use Rattle.stream_rooms.specs.Placing as placing
use Rattle.streams.specs.Joining as stream
use Rattle.streams.proofs.Kept as streams
use Rattle.message_rooms.specs.Placing as boxes
use Rattle.messages.specs.Joining as message
use Rattle.reading.specs.Table.{Lent, lent, state_in, segment_in, message_segment_in, is_state_words, wrong_sizes, lent_rows, table}
use Rattle.reading.specs.Read.{Settled, of_stream, of_message, refusing, outcome, reading}
use Rattle.reading.specs.Inside.{Fit, ReadyToRead}
use Rattle.reading.proofs.Laws.{sizes_fit}
use Rattle.reading.proofs.Kept.{good_words, room-kept}
use Rattle.flows.proofs.Rooms.{stored-length, room-length}
use Rattle.sending.specs.OfSendings.{LengthIsMeasured}

-- the answer is no delivery
abbrev NoDelivery : answers.Said → Type 0
NoDelivery says = (context : ℕ) (flow : Flow) (stream size : ℕ) → says ≡ answers.delivered context flow stream size → ⊥

refused_none : (number : ℕ) → NoDelivery (answers.refused number)
refused_none number context flow stream size e = let z : ◌≡◌ {A = ℕ} 0 1 = cc in omega arith

held_none : NoDelivery answers.held
held_none context flow stream size e = let z : ◌≡◌ {A = ℕ} 0 1 = cc in omega arith

message_none : (n s l m z : ℕ) → NoDelivery (answers.message n s l m z)
message_none n s l m z context flow stream size e = let w : ◌≡◌ {A = ℕ} 0 1 = cc in omega arith

-- refused, nothing is delivered
leaving_none : (x : Lent) (number : ℕ) (leaves : Leaves) → NoDelivery (refusing x number leaves).says
unfolding stream.refused_closing
leaving_none x number all = refused_none number
leaving_none x number flow_closed = refused_none number
leaving_none x number all_error = refused_none number
leaving_none x number all_retry = refused_none number

-- nor is a PDU by a message
answer_none : (m : MessageSegment) (n marks last : ℕ) → NoDelivery (boxes.answer_with m n marks last)
answer_none m n marks last = go (boxes.complete m marks)
  where
    go : (t : Bool) → NoDelivery (cond t (answers.message n m.source m.letter (mailbox m) (m.msglen * bytes_of m.ssize + last)) answers.held)
    go true = message_none n m.source m.letter (mailbox m) (m.msglen * bytes_of m.ssize + last)
    go false = held_none

messages_none : (s : State) (memory response p : List ℕ) (m : MessageSegment) → NoDelivery (message.message_accepted s memory response p m).says
unfolding message.message_accepted message.delivered_at_once boxes.message_placed
messages_none s memory response p m = go (is_single m) (message_open s m)
  where
    go : (a b : Bool)
        → NoDelivery (cond a (message.delivered_at_once s memory response p m (free_message s)) (cond b
        (boxes.message_placed s memory response p m (found s m) (message_in s (found s m)).marks (message_in s (found s m)).last)
        (boxes.message_placed s memory response p m (free_message s) 0 0))).says
    go true b = message_none (free_message s) m.source m.letter (mailbox m) m.raw
    go false true = answer_none m (found s m) (boxes.marks_with m (message_in s (found s m)).marks) (last_with m (message_in s (found s m)).last)
    go false false = answer_none m (free_message s) (boxes.marks_with m 0) (last_with m 0)

-- ---- What a delivery leaves

-- everything lent fits again; the context is one of so many, and the length 1 or more, and no longer than its room
pub record Delivers (rooms room : ℕ) (y : Settled) (context size : ℕ) : Type 0 where
  pub fit : Fit y.desk
  pub below : context < rooms
  pub some_byte : 1 ≤ size
  pub within : size ≤ room

-- the test of the first row with that number: it failed, where all did
abbrev pub test_of : ℕ → List Row → Bool
test_of number [] = false
test_of number (r ∷ rows) = cond (eqb r.number number) r.holds (test_of number rows)

pub row-passed : (number : ℕ) (rows : List Row) → none rows → test_of number rows ≡ false
unfolding none
row-passed number [] passed = refl
row-passed number (r ∷ rows) passed = go (eqb r.number number) (row-passed number rows passed.1)
  where
    go : (b : Bool) → test_of number rows ≡ false → cond b r.holds (test_of number rows) ≡ false
    go true later = passed.0
    go false later = later

-- a row's own test, where the packet has the row's type
pub of_type : (type b : Bool) → type ≡ true → (type && b) ≡ false → b ≡ false
of_type true b t e = e
of_type false b t e = absurd (false≢true t)

below_16 : (s : State) (g : Segment) → not_open s g ≡ false → none_free s g ≡ false → stream.context_for s g < 16
unfolding not_open none_free
below_16 s g e8 e10 = go g.begins (flow_open s g) refl e8 e10
  where
    go : (b o : Bool) → flow_open s g ≡ o → (not b && not o) ≡ false → (b && (not o && not (ltb (free_stream s) 16))) ≡ false → cond o (found_for s g) (free_stream s) < 16
    go b true e h8 h10 = ltb-true (found_for s g) 16 e
    go true false e h8 h10 = ltb-true (free_stream s) 16 (not-false (ltb (free_stream s) 16) h10)
    go false false e h8 h10 = absurd (false≢true (sym h8))

data_short : (p : List ℕ) (g : Segment) → length (placing.data_of p g) ≤ data_length g
data_short p g = simp length-take (omega arith)

module _ (x : Lent) (passed : none (table x)) where
  -- rows 19 and 12
  pub was_ready : ReadyToRead x.desk
  unfolding none table lent_rows head_rows given stream_rows message_rows form_rows
  was_ready =
      let row_12 = neither (not (is_state_words x.desk)) (wrong_sizes x.desk) passed.1.0 in
      let is_state : is_state_words x.desk ≡ true = not-false (is_state_words x.desk) row_12.0 in
      let sizes = sizes_fit x.desk row_12.1 in
      record {
        fit = record {
          whole = eqb-true (length x.desk.words) state_words is_state;
          good = of_type (is_state_words x.desk) (named_by_19 (state_in x)) is_state (row-passed 19 (table x) passed);
          rooms = sizes.0;
          boxes = sizes.1;
        };
        reply = sizes.2;
      }

  module _ (nine : is9 x.packet ≡ true) where
    abbrev g : Segment
    g = segment_in x

    abbrev joined : placing.Joined
    joined = stream.accepted (state_in x) x.desk.stream_memory x.packet g

    context_below : stream.context_for (state_in x) g < 16
    unfolding table lent_rows head_rows given stream_rows message_rows form_rows
    context_below = below_16 (state_in x) g (of_type (is9 x.packet) _ nine (row-passed 8 (table x) passed)) (of_type (is9 x.packet) _ nine (row-passed 10 (table x) passed))

    row_6 : malformed g ≡ false
    unfolding table lent_rows head_rows given stream_rows message_rows form_rows
    row_6 = of_type (is9 x.packet) _ nine (row-passed 6 (table x) passed)

    row_9 : passes_room (state_in x) g ≡ false
    unfolding table lent_rows head_rows given stream_rows message_rows form_rows
    row_9 = of_type (is9 x.packet) _ nine (row-passed 9 (table x) passed)

    fits : total (state_in x) g ≤ (state_in x).setup.room
    unfolding passes_room
    fits = ltb-false (state_in x).setup.room (total (state_in x) g) row_9

    good-after : named_by_19 joined.state ≡ false
    good-after = streams.accepted-kept (state_in x) x.desk.stream_memory x.packet g was_ready.fit.good row_6 row_9

    stream_fit : Fit (of_stream x joined).desk
    unfolding stream.accepted placing.placed
    stream_fit =
        let kept = good_words x.desk.words joined.state (record { setup = refl; streams = simp length-set; messages = refl }) good-after in
        let stored = stored-length (state_in x).setup.room x.desk.stream_memory was_ready.fit.rooms (stream.context_for (state_in x) g) context_below (held_before (state_in x) g)
        (placing.data_of x.packet g) (omega (arith, data_short x.packet g, fits)) in
        record {
          whole = kept.whole;
          good = kept.good;
          rooms = stored ∙ (was_ready.fit.rooms ∙ ap (λ (t : Setup). 16 * t.room) (sym kept.setup));
          boxes = was_ready.fit.boxes;
        }

    stream_delivers : (context : ℕ) (flow : Flow) (st size : ℕ) → joined.says ≡ answers.delivered context flow st size → Delivers 16 (state_in x).setup.room (of_stream x joined) context size
    unfolding stream.accepted placing.placed
    stream_delivers context flow st size = go g.ends
      where
        n : ℕ
        n = stream.context_for (state_in x) g

        go : (t : Bool) → cond t (answers.delivered n g.flow (stream.stream_id (state_in x) g) (total (state_in x) g)) answers.held ≡ answers.delivered context flow st size
            → Delivers 16 (state_in x).setup.room (of_stream x joined) context size
        go true e =
            let same_context : n ≡ context = cc in
            let same_size : total (state_in x) g ≡ size = cc in
            record { fit = stream_fit; below = omega (arith, context_below); some_byte = omega (arith, streams.data_there g row_6); within = omega (arith, fits) }
        go false e = absurd (held_none context flow st size e)

pub delivers : (x : Lent) (context : ℕ) (flow : Flow) (st size : ℕ) → (reading x).says ≡ answers.delivered context flow st size → Delivers 16 (state_in x).setup.room (reading x) context size
unfolding reading
delivers x context flow st size = by_verdict_lem (verdict (table x)) refl
  where
    by_type : (t : Bool) → is9 x.packet ≡ t → none (table x)
        → (cond t
        (of_stream x (stream.accepted (state_in x) x.desk.stream_memory x.packet (segment_in x)))
        (of_message x (message.message_accepted (state_in x) x.desk.message_memory x.desk.response x.packet (message_segment_in x)))).says ≡ answers.delivered context flow st size
        → Delivers 16 (state_in x).setup.room (cond t
        (of_stream x (stream.accepted (state_in x) x.desk.stream_memory x.packet (segment_in x)))
        (of_message x (message.message_accepted (state_in x) x.desk.message_memory x.desk.response x.packet (message_segment_in x)))) context size
    by_type true nine passed e = stream_delivers x passed nine context flow st size e
    by_type false nine passed e = absurd (messages_none (state_in x) x.desk.message_memory x.desk.response x.packet (message_segment_in x) context flow st size e)

    by_verdict_lem : (v : Verdict) → verdict (table x) ≡ v → (outcome x v).says ≡ answers.delivered context flow st size → Delivers 16 (state_in x).setup.room (outcome x v) context size
    by_verdict_lem (refuse number leaves) e d = absurd (leaving_none x number leaves context flow st size d)
    by_verdict_lem accept e d = by_type (is9 x.packet) refl (none-held (table x) e) d

pub length_is_measured : LengthIsMeasured
length_is_measured d p context flow st size e =
    let left = delivers (lent d p) context flow st size e in
    let rooms : length (reading (lent d p)).desk.stream_memory ≡ 16 * (state_in (lent d p)).setup.room = left.fit.rooms ∙ ap (λ (r : ℕ). 16 * r) (room-kept (lent d p)) in
    room-length (state_in (lent d p)).setup.room context size (reading (lent d p)).desk.stream_memory rooms left.below left.within

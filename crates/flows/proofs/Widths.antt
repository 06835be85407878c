-- A packet of the other width, and the same packet with IDs of the other width. What is read of the two is the same but for where the data begin; so a
-- step, which looks at the data alone, leaves the same.
use Prim.Native.Nat.{ℕ, ◌+◌, ◌-◌, ◌*◌, ◌/◌, ◌%◌, ◌≤◌, ◌<◌}
use mathlib.Core.Path.{◌≡◌, refl, ap, ap₂, sym, ◌∙◌, subst}
use mathlib.Core.List.{List, [], ◌∷◌}
use mathlib.Core.Bool.{Bool, true, false, cond, not, ◌||◌, ◌&&◌}
use native.Mathlib.Omega.{arith}
use lib.ListN.{length, take, drop, set, length-drop, length-set}
use lib.Seq.{get_or-drop, drop-drop, take_at}
use lib.Dec.{eqb, ltb}
use borrow.Author.Tests.{eq-eqb, ne_eqb, lt-ltb, le-ltb, ltb-true, ltb-false}
use Rattle.lists.specs.Bytes.{byte, word, bytes_from, number, in_bytes, written}
use Rattle.lists.proofs.Numbers.{number-one, number_two}
use Rattle.lists.proofs.Tests.{by_test, neither, ◌and◌}
use Rattle.lists.proofs.Written.{written_front}
use Rattle.answers.specs.Answers.{refused}
use Rattle.tables.specs.Refusals.{Row, row, all, Verdict, refuse, accept, verdict}
use Rattle.tables.proofs.Cases.{carried}
use Rattle.wire.specs.Packet.{header, priority, tt as tt·of, packet_type, tt_of, destination, source, first_byte_of, addressed, ids_of, bit}
use Rattle.wire.specs.declared.Setup.{Setup}
use Rattle.wire.specs.Segment.{Segment}
use Rattle.wire.specs.declared.MessageSegment.{MessageSegment}
use Rattle.wire.specs.declared.Flow.{Flow}
use Rattle.wire.specs.Type9.{flags, is_s, is_e, flow_of, segment_at, segment_of}
use Rattle.wire.specs.Type11.{message_of, is_single}
use Rattle.wire.specs.Head.{under, is9, head_rows}
use Rattle.wire.specs.Parsed.{Parsed, Refused, Stream, Message, parsed_by, parsed}
use Rattle.wire.proofs.HeadLaws.{with_field, without_field}
use Rattle.wire.proofs.Widths.{wide_is, narrow_is}
use Rattle.sizes.specs.Sizes.{data_length}
use Rattle.rules.specs.Segments.{malformed}
use Rattle.responses.specs.Type13.{response_size, DONE, ERROR, RETRY, above, response_to, answered}
use Rattle.contexts.specs.State.{State, fixed, ids_in, message_in, flow_context, free_stream, message_context, free_message}
use Rattle.contexts.specs.Words.{state_of, words_of}
use Rattle.contexts.proofs.Words.{sixteen, eight, words_of_lem, state_of_lem}
use Rattle.refusal19.specs.Refusal19.{named_by_19}
use Rattle.stream_rooms.specs.Placing as stream_room
use Rattle.streams.specs.Rows.{missized, not_open, passes_room, none_free, length_differs, stream_rows}
use Rattle.streams.specs.Joining as stream
use Rattle.message_rooms.specs.Placing as message_room
use Rattle.messages.specs.Rows.{message_found, message_open, other_message, already_marked, needed_none_free, message_rows}
use Rattle.rules.specs.Messages.{form_rows}
use Rattle.messages.specs.Joining as message
use Rattle.reading.specs.Desk.{Desk, state_on, with_streams, with_messages}
use Rattle.reading.specs.Table.{lent, lent_refusal}
use Rattle.reading.specs.Read.{Settled, settled}
use Rattle.reading.specs.Inside.{ReadyToRead}
use Rattle.reading.proofs.Rows.{by_parsed, by_packet}
use Rattle.reading.proofs.Laws.{sizes_right}
use Rattle.reading.proofs.Lent.{lent-ready}
use Rattle.flows.specs.Deliveries.{read}
use Rattle.flows.specs.Widths.{OtherWidthRefused, narrowed, with_width, narrowed_answer, SameButForIDs}

-- reading goes by what the packet is
read-parsed : (d : Desk) (p : List ℕ) → lent_refusal d ≡ 0 → read d p ≡ by_parsed (lent d p) (parsed (state_on d).setup p)
read-parsed d p e =
    let r : ReadyToRead d = lent-ready d e in
    by_packet (lent d p) r.fit.whole r.fit.good (sizes_right d r.fit.rooms r.fit.boxes r.reply)

-- ---- a packet of the other width

-- row 2
parsed_2 : (setup : Setup) (p : List ℕ) → header (ids_of setup) ≤ length p → (tt·of p ≡ tt_of (ids_of setup) → ⊥) → parsed setup p ≡ Refused 2
unfolding parsed head_rows verdict
parsed_2 setup p long other = rw (le-ltb (length p) (header (ids_of setup)) long, ne_eqb (tt·of p) (tt_of (ids_of setup)) other)

pub other_width_refused : OtherWidthRefused
other_width_refused d p e long other = read-parsed d p e ∙ ap (by_parsed (lent d p)) (parsed_2 (state_on d).setup p long other)

-- ---- what is read of the two packets

-- a test of two numbers, both two higher
shifted : (a b c e : ℕ) → a + 2 ≡ c → b + 2 ≡ e → ltb a b ≡ ltb c e
shifted a b c e u v =
    by_test (ltb c e)
    (λ t. lt-ltb a b (omega (arith, ltb-true c e t)) ∙ sym t)
    (λ t. le-ltb a b (omega (arith, ltb-false c e t)) ∙ sym t)

-- the rows of a head by their tests
abbrev seven : (a b c d e f g : Bool) → List Row
seven a b c d e f g = row 1 a all ∷ row 2 b all ∷ row 3 c all ∷ row 4 d all ∷ row 1 e all ∷ row 5 f all ∷ row 1 g all ∷ []

same-seven : (a a' b b' c c' d d' e e' f f' g g' : Bool) → a ≡ a' → b ≡ b' → c ≡ c' → d ≡ d' → e ≡ e' → f ≡ f' → g ≡ g' → seven a b c d e f g ≡ seven a' b' c' d' e' f' g'
same-seven a a' b b' c c' d d' e e' f f' g g' h₁ h₂ h₃ h₄ h₅ h₆ h₇ = rw (h₁, h₂, h₃, h₄, h₅, h₆, h₇)

-- a segment by its numbers
abbrev made : (flags : ℕ) → Flow → (field from raw : ℕ) → Segment
made x flow field from raw = record {
  begins = bit x 128;
  ends = bit x 64;
  flow = flow;
  field = field;
  from = from;
  raw = raw;
  odd = bit x 2;
  pad = bit x 1;
}

same-made : (x x' : ℕ) (k k' : Flow) (f f' from r r' : ℕ) → x ≡ x' → k ≡ k' → f ≡ f' → r ≡ r' → made x k f from r ≡ made x' k' f' from r'
same-made x x' k k' f f' from r r' h₁ h₂ h₃ h₄ = rw (h₁, h₂, h₃, h₄)

-- the same segment with its data elsewhere
abbrev moved : ℕ → Segment → Segment
moved from g = record {
  begins = g.begins;
  ends = g.ends;
  flow = g.flow;
  field = g.field;
  from = from;
  raw = g.raw;
  odd = g.odd;
  pad = g.pad;
}

-- a message segment by its numbers
abbrev mailed : (source a b raw : ℕ) → MessageSegment
mailed source a b raw = record { source = source; letter = b / 64; mbox = b / 16 % 4; msglen = a / 16; ssize = a % 16; msgseg = b % 16; raw = raw }

same-mailed : (s s' a a' b b' r r' : ℕ) → s ≡ s' → a ≡ a' → b ≡ b' → r ≡ r' → mailed s a b r ≡ mailed s' a' b' r'
same-mailed s s' a a' b b' r r' h₁ h₂ h₃ h₄ = rw (h₁, h₂, h₃, h₄)

-- a packet written
pub narrowed-addressed : (first to by : ℕ) (rest : List ℕ) → narrowed (addressed 2 first to by rest) ≡ addressed 1 (first - 16) to by rest
unfolding narrowed addressed in_bytes
narrowed-addressed first to by rest = refl

pub first_narrowed : (priority type : ℕ) → first_byte_of 2 priority type - 16 ≡ first_byte_of 1 priority type
first_narrowed priority type = omega arith

-- the segment is the same but for where its data begin, and these are the same
record Moved (p q : List ℕ) : Type 0 where
  from : ℕ
  same : segment_of 1 q ≡ moved from (segment_of 2 p)
  behind : drop from q ≡ drop (segment_of 2 p).from p

module _ (p : List ℕ) (long : header 2 ≤ length p) (two : tt·of p ≡ tt_of 2) (to : destination 2 p < 256) (by : source 2 p < 256) where
  abbrev q : List ℕ
  q = narrowed p

  lengths : length q + 2 ≡ length p
  unfolding narrowed
  lengths = omega (arith, length-drop (header 2) p)

  first-same : byte q (header 1) ≡ byte p (header 2)
  unfolding narrowed
  first-same = get_or-drop (header 2) p 0 0

  flags-same : flags 1 q ≡ flags 2 p
  unfolding narrowed
  flags-same = get_or-drop (header 2) p 1 0

  field_same : word q (header 1 + 2) ≡ word p (header 2 + 2)
  unfolding narrowed
  field_same = ap₂ (λ (a b : ℕ). a * 256 + b) (get_or-drop (header 2) p 2 0) (get_or-drop (header 2) p 3 0)

  to_same : destination 1 q ≡ destination 2 p
  unfolding narrowed
  to_same = number-one q 1 ∙ (let e : byte p 2 ≡ destination 2 p = omega (arith, number_two p 1) in e)

  by_same : source 1 q ≡ source 2 p
  unfolding narrowed
  by_same = number-one q 2 ∙ (let e : byte p 4 ≡ source 2 p = omega (arith, number_two p 3) in e)

  tt_is : tt·of q ≡ tt_of 1
  unfolding narrowed
  tt_is = let e : (byte p 0 - 16) / 16 % 4 ≡ 0 = omega arith in e

  type_same : packet_type q ≡ packet_type p
  unfolding narrowed
  type_same = let e : (byte p 0 - 16) % 16 ≡ byte p 0 % 16 = omega arith in e

  priority-same : priority q ≡ priority p
  unfolding narrowed
  priority-same = let e : (byte p 0 - 16) / 64 ≡ byte p 0 / 64 = omega arith in e

  flow_same : flow_of 1 q ≡ flow_of 2 p
  flow_same =
      ap₂ (λ (s c : ℕ). record { source = s; priority = priority q; cos = c }) by_same first-same
      ∙ ap (λ (n : ℕ). record { source = source 2 p; priority = n; cos = byte p (header 2) }) priority-same

  rows_same : (device : ℕ) → head_rows device 1 q ≡ head_rows device 2 p
  unfolding head_rows
  rows_same device =
      same-seven _ _ _ _ _ _ _ _ _ _ _ _ _ _
      (shifted (length q) (header 1) (length p) (header 2) lengths refl)
      (ap not (eq-eqb (tt·of q) (tt_of 1) tt_is ∙ sym (eq-eqb (tt·of p) (tt_of 2) two)))
      (ap (λ (n : ℕ). not (eqb n device)) to_same)
      (ap (λ (n : ℕ). not (eqb n 9 || eqb n 11)) type_same)
      (shifted (length q) (header 1 + 2) (length p) (header 2 + 2) lengths refl)
      (ap₂ (λ (n x : ℕ). eqb n 9 && bit x 4) type_same flags-same)
      (ap₂ (λ (n x : ℕ). eqb n 9 && ((bit x 128 || bit x 64) && under (header 1 + 4) q)) type_same flags-same
      ∙ ap (λ (b : Bool). is9 p && ((is_s 2 p || is_e 2 p) && b)) (shifted (length q) (header 1 + 4) (length p) (header 2 + 4) lengths refl))

  fields-same : (a b f f' : ℕ) → a + 2 ≡ b → f ≡ f' → segment_at 1 q a f ≡ moved a (segment_at 2 p b f')
  unfolding segment_at
  fields-same a b f f' e h = same-made _ _ _ _ _ _ _ _ _ flags-same flow_same h (omega (arith, lengths))

  from_of : (from field : ℕ) → (segment_at 2 p from field).from ≡ from
  unfolding segment_at
  from_of from field = refl

  -- what stands two bytes and four behind the head's end
  behind_2 : drop (header 1 + 2) q ≡ drop (header 2 + 2) p
  unfolding narrowed
  behind_2 = drop-drop 2 (header 2) p

  behind_4 : drop (header 1 + 4) q ≡ drop (header 2 + 4) p
  unfolding narrowed
  behind_4 = drop-drop 4 (header 2) p

  segment-moved : Moved p q
  segment-moved = by_test (is_s 2 p || is_e 2 p) fielded plain
    where
      tests : (is_s 1 q || is_e 1 q) ≡ (is_s 2 p || is_e 2 p)
      tests = ap (λ (x : ℕ). bit x 128 || bit x 64) flags-same

      fielded : (is_s 2 p || is_e 2 p) ≡ true → Moved p q
      fielded t = record {
        from = header 1 + 4;
        same = with_field 1 q (tests ∙ t) ∙ (fields-same (header 1 + 4) (header 2 + 4) _ _ refl field_same ∙ ap (moved (header 1 + 4)) (sym (with_field 2 p t)));
        behind = behind_4 ∙ ap (λ (n : ℕ). drop n p) (sym (ap (λ (g : Segment). g.from) (with_field 2 p t) ∙ from_of _ _));
      }

      plain : (is_s 2 p || is_e 2 p) ≡ false → Moved p q
      plain t =
          let a = neither (is_s 2 p) (is_e 2 p) t in
          let b = neither (is_s 1 q) (is_e 1 q) (tests ∙ t) in
          record {
            from = header 1 + 2;
            same = without_field 1 q b.0 b.1 ∙ (fields-same (header 1 + 2) (header 2 + 2) 0 0 refl refl ∙ ap (moved (header 1 + 2)) (sym (without_field 2 p a.0 a.1)));
            behind = behind_2 ∙ ap (λ (n : ℕ). drop n p) (sym (ap (λ (g : Segment). g.from) (without_field 2 p a.0 a.1) ∙ from_of _ _));
          }

  message_same : message_of 1 q ≡ message_of 2 p
  unfolding message_of
  message_same = same-mailed _ _ _ _ _ _ _ _ by_same first-same flags-same (omega (arith, lengths))

  -- the response
  response_same : (status : ℕ) → response_to 1 q status ≡ narrowed (response_to 2 p status)
  unfolding response_to bytes_from narrowed
  response_same status =
      ap₂ (λ (first last : ℕ). first ∷ byte p 4 ∷ byte p 2 ∷ (0b0001 * 16 + status) ∷ last ∷ [])
      (ap (λ (n : ℕ). first_byte_of 1 (above n) 13) priority-same ∙ sym (first_narrowed (above (priority p)) 13)) flags-same

  length_response : (status : ℕ) → length (response_to 2 p status) ≡ response_size 2
  unfolding response_to bytes_from
  length_response status = refl

  reply_same : (response response' : List ℕ) (status : ℕ) → answered 1 response' q status ≡ written response' 0 (narrowed (take (response_size 2) (answered 2 response p status)))
  unfolding answered
  reply_same response response' status =
      let front : take (response_size 2) (written response 0 (response_to 2 p status)) ≡ response_to 2 p status =
      ap (take (response_size 2)) (written_front response (response_to 2 p status)) ∙ take_at (response_to 2 p status) _ (response_size 2) (length_response status) in
      ap (written response' 0) (response_same status ∙ ap narrowed (sym front))

-- ---- the steps, of a state and of the same with another width word

abbrev state_at : (narrow : ℕ) → State → State
state_at narrow s = record { setup = fixed s.setup.device s.setup.mtu s.setup.room narrow; streams = s.streams; messages = s.messages }

module _ (narrow : ℕ) (s : State) (memory : List ℕ) where
  abbrev joined_at : stream_room.Joined → stream_room.Joined
  joined_at j = stream_room.joining j.says j.dropped (state_at narrow j.state) j.memory

  -- a type 9 packet
  stream_same : (p q : List ℕ) (g : Segment) (from : ℕ) → drop from q ≡ drop g.from p
      → joined_at (stream.stepped s memory p g) ≡ stream.stepped (state_at narrow s) memory q (moved from g)
  unfolding stream.stepped stream_rows malformed missized not_open passes_room none_free length_differs flow_context free_stream
      stream.refused_staying stream.refused_closing stream.accepted stream_room.placed data_length
  stream_same p q g from e =
      carried joined_at (stream.stream_refusing s memory g) (stream.accepted s memory p g)
      (stream.stream_refusing (state_at narrow s) memory (moved from g)) (stream.accepted (state_at narrow s) memory q (moved from g)) (stream_rows s g)
      ((λ number. refl) and (λ number. refl) and (λ number. refl) and (λ number. refl) and (λ number. refl) and (λ number. refl) and tt)
      (rw e)

  module _ (response response' p q : List ℕ) (m : MessageSegment) where
    abbrev message_at : message_room.MessageJoined → message_room.MessageJoined
    message_at j = message_room.message_joining j.says (state_at narrow j.state) j.memory (written response' 0 (narrowed (take (response_size 2) j.response)))

    -- a type 11 packet
    module _ (mail : message_room.message_data (ids_in (state_at narrow s)) q ≡ message_room.message_data (ids_in s) p)
        (reply : (status : ℕ) → answered (ids_in (state_at narrow s)) response' q status ≡ written response' 0 (narrowed (take (response_size 2) (answered (ids_in s) response p status)))) where
      refused_same : (number status : ℕ) → message_at (message.refused_with s memory response p number status) ≡ message.refused_with (state_at narrow s) memory response' q number status
      unfolding message.refused_with
      refused_same number status = ap (message_room.message_joining (refused number) (state_at narrow s) memory) (sym (reply status))

      alone-same : (n : ℕ) → message_at (message.delivered_at_once s memory response p m n) ≡ message.delivered_at_once (state_at narrow s) memory response' q m n
      unfolding message.delivered_at_once
      alone-same n = rw (mail, reply DONE)

      placed_same : (n marks last : ℕ) → message_at (message_room.message_placed s memory response p m n marks last) ≡ message_room.message_placed (state_at narrow s) memory response' q m n marks last
      unfolding message_room.message_placed
      placed_same n marks last = rw (mail, reply DONE)

      accepted-same : message_at (message.message_accepted s memory response p m) ≡ message.message_accepted (state_at narrow s) memory response' q m
      unfolding message.message_accepted message_found message_context free_message
      accepted-same = go (is_single m) (message_open s m)
        where
          found : ℕ
          found = message_found s m

          go : (single is_open : Bool)
              → message_at (cond single (message.delivered_at_once s memory response p m (free_message s))
              (cond is_open (message_room.message_placed s memory response p m found (message_in s found).marks (message_in s found).last)
              (message_room.message_placed s memory response p m (free_message s) 0 0)))
              ≡ cond single (message.delivered_at_once (state_at narrow s) memory response' q m (free_message s))
              (cond is_open (message_room.message_placed (state_at narrow s) memory response' q m found (message_in s found).marks (message_in s found).last)
              (message_room.message_placed (state_at narrow s) memory response' q m (free_message s) 0 0))
          go true is_open = alone-same (free_message s)
          go false true = placed_same found (message_in s found).marks (message_in s found).last
          go false false = placed_same (free_message s) 0 0

      message_step_same : message_at (message.message_stepped s memory response p m) ≡ message.message_stepped (state_at narrow s) memory response' q m
      unfolding message.message_stepped message_rows form_rows other_message already_marked needed_none_free message_found message_context free_message
      message_step_same =
          let error : (number : ℕ) → message_at (message.refused_with s memory response p number ERROR) ≡ message.refused_with (state_at narrow s) memory response' q number ERROR = λ n. refused_same n ERROR in
          let retry : (number : ℕ) → message_at (message.refused_with s memory response p number RETRY) ≡ message.refused_with (state_at narrow s) memory response' q number RETRY = λ n. refused_same n RETRY in
          carried message_at (message.message_refusing s memory response p) (message.message_accepted s memory response p m)
          (message.message_refusing (state_at narrow s) memory response' q) (message.message_accepted (state_at narrow s) memory response' q m) (message_rows s m)
          (error and error and error and error and error and retry and tt) accepted-same

-- ---- reading

module _ (narrow : ℕ) (d : Desk) (response p : List ℕ) (wide : (state_on d).setup.narrow ≡ 0) (passed : lent_refusal d ≡ 0) (slim : narrow ≡ 0 → ⊥)
    (room : response_size 1 ≤ length response) (long : header 2 ≤ length p) (two : tt·of p ≡ tt_of 2) (to : destination 2 p < 256) (by : source 2 p < 256) where
  abbrev s : State
  s = state_on d

  abbrev there : Desk
  there = with_width narrow response d

  abbrev carry : Settled → Settled
  carry = narrowed_answer narrow response

  ready : ReadyToRead d
  ready = lent-ready d passed

  ids_two : ids_in s ≡ 2
  ids_two = wide_is s.setup.narrow wide

  ids_one : ids_in (state_at narrow s) ≡ 1
  ids_one = narrow_is narrow slim

  -- the state there
  words_there : (t : State) → set (words_of t) 3 narrow ≡ words_of (state_at narrow t)
  unfolding words_of
  words_there t = refl

  state_there : state_on there ≡ state_at narrow s
  state_there =
      ap (λ (w : List ℕ). state_of (set w 3 narrow)) (sym (words_of_lem d.words ready.fit.whole))
      ∙ (ap state_of (words_there s) ∙ state_of_lem (state_at narrow s) (sixteen d.words) (eight d.words))

  still-good : named_by_19 (state_on there) ≡ false
  unfolding named_by_19
  still-good = ap named_by_19 state_there ∙ ready.fit.good

  -- what is answered and left there, by the state
  abbrev said_by_state : State → Parsed → Settled
  said_by_state t (Refused number) = settled (refused number) false 0 there
  said_by_state t (Stream g) =
      let j = stream.stepped t d.stream_memory (narrowed p) g in
      settled j.says j.dropped 0 (with_streams there (words_of j.state) j.memory)
  said_by_state t (Message m) =
      let j = message.message_stepped t d.message_memory response (narrowed p) m in
      settled j.says false (response_size (ids_in t)) (with_messages there (words_of j.state) j.memory j.response)

  by_state : (y : Parsed) → by_parsed (lent there (narrowed p)) y ≡ said_by_state (state_on there) y
  by_state (Refused number) = refl
  by_state (Stream g) = refl
  by_state (Message m) = refl

  read-there : read there (narrowed p) ≡ said_by_state (state_at narrow s) (parsed (state_at narrow s).setup (narrowed p))
  read-there =
      by_packet (lent there (narrowed p)) (length-set d.words 3 narrow ∙ ready.fit.whole) still-good
      (sizes_right there (ready.fit.rooms ∙ ap (λ (t : State). 16 * t.setup.room) (sym state_there)) ready.fit.boxes
      (subst (λ (t : State). response_size (ids_in t) ≤ length response) (sym state_there) (subst (λ (n : ℕ). response_size n ≤ length response) (sym ids_one) room)))
      ∙ (by_state (parsed (state_on there).setup (narrowed p)) ∙ ap (λ (t : State). said_by_state t (parsed t.setup (narrowed p))) state_there)

  -- a type 9 packet
  of_stream_lem : said_by_state (state_at narrow s) (Stream (segment_of 1 (narrowed p))) ≡ carry (by_parsed (lent d p) (Stream (segment_of 2 p)))
  of_stream_lem =
      let g = segment-moved p long two to by in
      ap (λ (x : Segment). said_by_state (state_at narrow s) (Stream x)) g.same
      ∙ (ap (λ (j : stream_room.Joined). settled j.says j.dropped 0 (with_streams there (words_of j.state) j.memory))
      (sym (stream_same narrow s d.stream_memory p (narrowed p) (segment_of 2 p) g.from g.behind))
      ∙ ap (λ (w : List ℕ). settled left.says left.dropped 0 (with_streams there w left.memory)) (sym (words_there left.state)))
    where
      left : stream_room.Joined
      left = stream.stepped s d.stream_memory p (segment_of 2 p)

  -- a type 11 packet
  of_message_lem : said_by_state (state_at narrow s) (Message (message_of 1 (narrowed p))) ≡ carry (by_parsed (lent d p) (Message (message_of 2 p)))
  of_message_lem =
      ap₂ (λ (n : ℕ) (m : MessageSegment). settles there n (message.message_stepped (state_at narrow s) d.message_memory response (narrowed p) m)) ids_one (message_same p long two to by)
      ∙ (ap (settles there 1) (sym (message_step_same narrow s d.message_memory d.response response p (narrowed p) (message_of 2 p) mail reply))
      ∙ (ap (λ (w : List ℕ). settled left.says false (response_size 1) (with_messages there w left.memory (written response 0 (narrowed (take (response_size 2) left.response)))))
      (sym (words_there left.state))
      ∙ ap (λ (n : ℕ). carry (settles d n left)) (sym ids_two)))
    where
      settles : Desk → ℕ → message_room.MessageJoined → Settled
      settles e n j = settled j.says false (response_size n) (with_messages e (words_of j.state) j.memory j.response)

      left : message_room.MessageJoined
      left = message.message_stepped s d.message_memory d.response p (message_of 2 p)

      mail : message_room.message_data (ids_in (state_at narrow s)) (narrowed p) ≡ message_room.message_data (ids_in s) p
      mail = ap (λ (n : ℕ). message_room.message_data n (narrowed p)) ids_one ∙ (behind_2 p long two to by ∙ ap (λ (n : ℕ). message_room.message_data n p) (sym ids_two))

      reply : (status : ℕ) → answered (ids_in (state_at narrow s)) response (narrowed p) status
          ≡ written response 0 (narrowed (take (response_size 2) (answered (ids_in s) d.response p status)))
      reply status =
          ap (λ (n : ℕ). answered n response (narrowed p) status) ids_one
          ∙ (reply_same p long two to by d.response response status
          ∙ ap (λ (n : ℕ). written response 0 (narrowed (take (response_size 2) (answered n d.response p status)))) (sym ids_two))

  by_verdict_lem : (v : Verdict) → said_by_state (state_at narrow s) (parsed_by 1 (narrowed p) v) ≡ carry (by_parsed (lent d p) (parsed_by 2 p v))
  by_verdict_lem (refuse number leaves) = refl
  by_verdict_lem accept =
      ap (λ (n : ℕ). said_by_state (state_at narrow s) (cond (eqb n 9) (Stream (segment_of 1 (narrowed p))) (Message (message_of 1 (narrowed p))))) (type_same p long two to by)
      ∙ go (is9 p)
    where
      go : (nine : Bool) → said_by_state (state_at narrow s) (cond nine (Stream (segment_of 1 (narrowed p))) (Message (message_of 1 (narrowed p))))
          ≡ carry (by_parsed (lent d p) (cond nine (Stream (segment_of 2 p)) (Message (message_of 2 p))))
      go true = of_stream_lem
      go false = of_message_lem

  parsed-there : parsed (state_at narrow s).setup (narrowed p) ≡ parsed_by 1 (narrowed p) (verdict (head_rows s.setup.device 2 p))
  unfolding parsed
  parsed-there =
      ap (λ (n : ℕ). parsed_by n (narrowed p) (verdict (head_rows s.setup.device n (narrowed p)))) ids_one
      ∙ ap (λ (rows : List Row). parsed_by 1 (narrowed p) (verdict rows)) (rows_same p long two to by s.setup.device)

  parsed-here : parsed s.setup p ≡ parsed_by 2 p (verdict (head_rows s.setup.device 2 p))
  unfolding parsed
  parsed-here = ap (λ (n : ℕ). parsed_by n p (verdict (head_rows s.setup.device n p))) ids_two

  answers_same : read there (narrowed p) ≡ carry (read d p)
  answers_same =
      read-there
      ∙ (ap (said_by_state (state_at narrow s)) parsed-there
      ∙ (by_verdict_lem (verdict (head_rows s.setup.device 2 p))
      ∙ ap carry (sym (read-parsed d p passed ∙ ap (by_parsed (lent d p)) parsed-here))))

pub same_but_for_ids : SameButForIDs
same_but_for_ids = answers_same

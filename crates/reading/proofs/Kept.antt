-- Reading leaves a state that 19 does not name, where it found one, with the same device, MTU and R: so a run over many packets tests the state once.
use Prim.Native.Nat.{ℕ, ◌<◌}
use mathlib.Core.Path.{◌≡◌, refl, ap, ◌∙◌}
use mathlib.Core.List.{List}
use mathlib.Core.Bool.{true, false}
use native.Mathlib.Omega.{arith}
use lib.ListN.{length, get_or, length-set}
use Rattle.lists.proofs.Tests.{by_test, not-second, the_other}
use Rattle.tables.specs.Refusals.{Leaves, all, flow_closed, all_error, all_retry, Verdict, refuse, accept, verdict, given, none}
use Rattle.tables.proofs.Exactly.{none-held}
use Rattle.wire.specs.Packet.{header}
use Rattle.wire.specs.Type11.{message_of, is_single}
use Rattle.wire.specs.Head.{is9, is11, head_rows}
use Rattle.wire.specs.declared.Setup.{Setup}
use Rattle.contexts.specs.State.{State, ids_in, free_message}
use Rattle.contexts.specs.Words.{state_of, words_of, state_words}
use Rattle.refusal19.specs.Refusal19.{named_by_19}
use Rattle.contexts.proofs.Words.{sixteen, eight, state_of_lem, length_words}
use Rattle.stream_rooms.specs.Placing as stream_room
use Rattle.streams.specs.Joining as stream
use Rattle.message_rooms.specs.Placing as message_room
use Rattle.messages.specs.Joining as message
use Rattle.streams.specs.Rows.{stream_rows}
use Rattle.rules.specs.Messages.{form_rows}
use Rattle.messages.specs.Rows.{message_open, message_found, message_rows}
use Rattle.streams.proofs.Kept as streams
use Rattle.messages.proofs.Kept as messages
use Rattle.reading.specs.Table.{Lent, state_in, segment_in, message_segment_in, lent_rows, table}
use Rattle.reading.specs.Read.{reading, outcome, refusing}
use Rattle.reading.specs.Good.{StillGood}

-- the words of a state with as many contexts
pub record Same (s t : State) : Type 0 where
  pub setup : t.setup ≡ s.setup
  pub streams : length t.streams ≡ length s.streams
  pub messages : length t.messages ≡ length s.messages

pub good_words : (w : List ℕ) (t : State) → Same (state_of w) t → named_by_19 t ≡ false → StillGood (state_of w) (words_of t)
good_words w t e g =
    let back : state_of (words_of t) ≡ t = state_of_lem t (e.streams ∙ sixteen w) (e.messages ∙ eight w) in
    record {
      whole = length_words t (e.streams ∙ sixteen w) (e.messages ∙ eight w);
      good = ap named_by_19 back ∙ g;
      setup = ap (λ (s : State). s.setup) back ∙ e.setup;
    }

pub unchanged : (w : List ℕ) → length w ≡ state_words → named_by_19 (state_of w) ≡ false → StillGood (state_of w) w
unchanged w l g = record { whole = l; good = g; setup = refl }

module _ (x : Lent) where
  closing_same : (number : ℕ) → Same (state_in x) (stream.refused_closing (state_in x) x.desk.stream_memory (segment_in x) number).state
  unfolding stream.refused_closing
  closing_same number = record { setup = refl; streams = simp length-set; messages = refl }

  stream_same : Same (state_in x) (stream.accepted (state_in x) x.desk.stream_memory x.packet (segment_in x)).state
  unfolding stream.accepted stream_room.placed
  stream_same = record { setup = refl; streams = simp length-set; messages = refl }

  placed_same : (n marks last : ℕ) → Same (state_in x) (message_room.message_placed (state_in x) x.desk.message_memory x.desk.response x.packet (message_segment_in x) n marks last).state
  unfolding message_room.message_placed
  placed_same n marks last = record { setup = refl; streams = refl; messages = simp length-set }

  alone-same : (n : ℕ) → Same (state_in x) (message.delivered_at_once (state_in x) x.desk.message_memory x.desk.response x.packet (message_segment_in x) n).state
  unfolding message.delivered_at_once
  alone-same n = record { setup = refl; streams = refl; messages = simp length-set }

  message_same : Same (state_in x) (message.message_accepted (state_in x) x.desk.message_memory x.desk.response x.packet (message_segment_in x)).state
  unfolding message.message_accepted
  message_same =
      by_test (is_single (message_segment_in x)) (λ t. rw t (alone-same (free_message (state_in x))))
      (λ t. by_test (message_open (state_in x) (message_segment_in x))
      (λ o. rw (t, o) (placed_same (message_found (state_in x) (message_segment_in x)) _ _))
      (λ o. rw (t, o) (placed_same (free_message (state_in x)) 0 0)))

  -- what setup fixed stays, whatever the words
  same-setup : (t : State) → Same (state_in x) t → (state_of (words_of t)).setup ≡ (state_in x).setup
  same-setup t e = ap (λ (s : State). s.setup) (state_of_lem t (e.streams ∙ sixteen x.desk.words) (e.messages ∙ eight x.desk.words)) ∙ e.setup

  pub setup-kept : (state_of (reading x).desk.words).setup ≡ (state_in x).setup
  unfolding reading
  setup-kept = by_verdict_lem (verdict (table x))
    where
      by_verdict_lem : (v : Verdict) → (state_of (outcome x v).desk.words).setup ≡ (state_in x).setup
      by_verdict_lem (refuse number all) = refl
      by_verdict_lem (refuse number flow_closed) = same-setup _ (closing_same number)
      by_verdict_lem (refuse number all_error) = refl
      by_verdict_lem (refuse number all_retry) = refl
      by_verdict_lem accept = by_test (is9 x.packet) (λ t. rw t (same-setup _ stream_same)) (λ t. rw t (same-setup _ message_same))

  pub room-kept : (state_of (reading x).desk.words).setup.room ≡ (state_in x).setup.room
  room-kept = ap (λ (f : Setup). f.room) setup-kept

  -- every row of an accepted packet has failed
  abbrev Passed : Type 0
  Passed = none (table x)

  -- an accepted packet that is not of type 9 is of type 11
  pub other_type : Passed → is9 x.packet ≡ false → is11 x.packet ≡ true
  unfolding none table lent_rows head_rows given stream_rows message_rows form_rows
  other_type n f = the_other (is9 x.packet) (is11 x.packet) n.1.1.1.1.1.0 f

  module _ (whole : length x.desk.words ≡ state_words) (fine : named_by_19 (state_in x) ≡ false) (small : get_or x.packet (header (ids_in (state_in x))) 0 < 256) where
    stream_good : Passed → is9 x.packet ≡ true → StillGood (state_in x) (words_of (stream.accepted (state_in x) x.desk.stream_memory x.packet (segment_in x)).state)
    unfolding none table lent_rows head_rows given stream_rows message_rows form_rows
    stream_good n t =
        let row_6 = n.1.1.1.1.1.1.1.1.1 in
        let row_9 = row_6.1.1.1 in
        good_words x.desk.words _ stream_same
        (streams.accepted-kept (state_in x) x.desk.stream_memory x.packet (segment_in x) fine (not-second (is9 x.packet) _ t row_6.0) (not-second (is9 x.packet) _ t row_9.0))

    few : (message_segment_in x).msglen < 16
    unfolding message_of
    few = omega (arith, small)

    message_good : Passed → is9 x.packet ≡ false
        → StillGood (state_in x) (words_of (message.message_accepted (state_in x) x.desk.message_memory x.desk.response x.packet (message_segment_in x)).state)
    unfolding none table lent_rows head_rows given stream_rows message_rows form_rows
    message_good n f =
        let t : is11 x.packet ≡ true = other_type n f in
        let row_20 = n.1.1.1.1.1.1.1.1.1.1.1.1.1.1.1 in
        let row_21 = row_20.1 in
        let row_22 = row_21.1 in
        let row_23 = row_22.1 in
        let row_24 = row_23.1 in
        good_words x.desk.words _ message_same
        (messages.accepted-kept (state_in x) x.desk.message_memory x.desk.response x.packet (message_segment_in x) fine (eight x.desk.words) few
        (not-second (is11 x.packet) _ t row_20.0) (not-second (is11 x.packet) _ t row_21.0) (not-second (is11 x.packet) _ t row_22.0)
        (not-second (is11 x.packet) _ t row_23.0) (not-second (is11 x.packet) _ t row_24.0))

    pub stays_good : StillGood (state_in x) (reading x).desk.words
    unfolding reading
    stays_good = by_verdict_lem (verdict (table x)) refl
      where
        by_leaves : (number : ℕ) (leaves : Leaves) → StillGood (state_in x) (refusing x number leaves).desk.words
        by_leaves number all = unchanged x.desk.words whole fine
        by_leaves number flow_closed = good_words x.desk.words _ (closing_same number) (streams.closing-kept (state_in x) x.desk.stream_memory x.packet (segment_in x) fine number)
        by_leaves number all_error = unchanged x.desk.words whole fine
        by_leaves number all_retry = unchanged x.desk.words whole fine

        by_verdict_lem : (v : Verdict) → verdict (table x) ≡ v → StillGood (state_in x) (outcome x v).desk.words
        by_verdict_lem (refuse number leaves) e = by_leaves number leaves
        by_verdict_lem accept e =
            by_test (is9 x.packet)
            (λ t. rw t (stream_good (none-held (table x) e) t))
            (λ t. rw t (message_good (none-held (table x) e) t))

-- The table by its parts: rows 19 and 12, then what the packet is, then the step of its type.
use Prim.Native.Nat.{ℕ}
use mathlib.Core.Path.{◌≡◌, refl, ap, sym, ◌∙◌}
use mathlib.Core.List.{List, ◌++◌}
use mathlib.Core.Bool.{Bool, true, false, cond, not, ◌||◌, ◌&&◌}
use lib.ListN.{length}
use borrow.Author.Tests.{eq-eqb}
use Rattle.lists.specs.Each.{Each}
use Rattle.lists.proofs.Tests.{by_test, ◌and◌}
use Rattle.tables.specs.Refusals.{Row, Leaves, all, flow_closed, all_error, all_retry, Verdict, refuse, accept, verdict, given}
use Rattle.tables.proofs.Exactly.{every_row, none-held}
use Rattle.tables.proofs.Joined.{or_else, verdict-joined, joined-refuses, first_given, second_given}
use Rattle.tables.proofs.Cases.{by_row, carried}
use Rattle.wire.specs.Parsed.{Parsed}
use Rattle.wire.specs.Parsed.{Refused, Stream, Message}
use Rattle.wire.specs.Parsed.{parsed_by, parsed}
use Rattle.wire.specs.Head.{is9, is11, head_rows}
use Rattle.wire.proofs.HeadLaws.{one_type, other_type}
use Rattle.responses.specs.Type13.{ERROR, RETRY}
use Rattle.rules.specs.Messages.{form_rows}
use Rattle.contexts.specs.State.{ids_in}
use Rattle.contexts.specs.Words.{state_words}
use Rattle.contexts.proofs.Words.{words_of_lem}
use Rattle.refusal19.specs.Refusal19.{named_by_19}
use Rattle.streams.specs.Rows.{stream_rows}
use Rattle.streams.specs.Joining as stream
use Rattle.messages.specs.Rows.{message_rows}
use Rattle.messages.specs.Joining as message
use Rattle.reading.specs.Table.{Lent, state_in, segment_in, message_segment_in, is_state_words, wrong_sizes, lent_rows, lent_refusal, table}
use Rattle.reading.specs.Read.{Settled, of_stream, of_message, refusing, accepting, reading, outcome}
use Rattle.reading.proofs.Lent.{lent_refused}

-- what is left by what the packet is
abbrev pub by_parsed : Lent → Parsed → Settled
by_parsed x (Refused number) = refusing x number all
by_parsed x (Stream g) = of_stream x (stream.stepped (state_in x) x.desk.stream_memory x.packet g)
by_parsed x (Message m) = of_message x (message.message_stepped (state_in x) x.desk.message_memory x.desk.response x.packet m)

-- the rows behind the head's: from 6 on
unfoldable typed_rows : Lent → List Row
typed_rows x = given (is9 x.packet) (stream_rows (state_in x) (segment_in x)) ++ given (is11 x.packet) (message_rows (state_in x) (message_segment_in x))

-- rows 19 and 12, then those of the head and those of its type
flat : (x : Lent) → reading x ≡ cond (is_state_words x.desk && named_by_19 (state_in x)) (refusing x 19 all)
    (cond (not (is_state_words x.desk) || wrong_sizes x.desk) (refusing x 12 all) (outcome x (verdict (head_rows (state_in x).setup.device (ids_in (state_in x)) x.packet ++ typed_rows x))))
unfolding reading table lent_rows typed_rows
flat x = by_row (refusing x) (accepting x) 19 _ all _ ∙ rw (by_row (refusing x) (accepting x) 12 (not (is_state_words x.desk) || wrong_sizes x.desk) all)

-- every row of the head leaves all
head_leaves : (device ids : ℕ) (p : List ℕ) → Each (λ (r : Row). r.leaves ≡ all) (head_rows device ids p)
unfolding head_rows
head_leaves device ids p = refl and refl and refl and refl and refl and refl and refl and tt

module _ (x : Lent) (whole : length x.desk.words ≡ state_words) where
  -- type 9: what a row leaves is the same on the desk
  stays : (number : ℕ) → of_stream x (stream.refused_staying (state_in x) x.desk.stream_memory number) ≡ refusing x number all
  unfolding stream.refused_staying
  stays number = rw (words_of_lem x.desk.words whole)

  closes : (number : ℕ) → of_stream x (stream.refused_closing (state_in x) x.desk.stream_memory (segment_in x) number) ≡ refusing x number flow_closed
  closes number = refl

  only_9 : is9 x.packet ≡ true → verdict (typed_rows x) ≡ verdict (stream_rows (state_in x) (segment_in x))
  unfolding typed_rows
  only_9 n = rw (n, one_type x.packet n) (first_given (stream_rows (state_in x) (segment_in x)) (message_rows (state_in x) (message_segment_in x)))

  stream_typed : is9 x.packet ≡ true → outcome x (verdict (typed_rows x)) ≡ by_parsed x (Stream (segment_in x))
  unfolding stream_rows stream.stepped
  stream_typed n =
      ap (outcome x) (only_9 n)
      ∙ sym (carried (of_stream x) _ _ (refusing x) (accepting x) (stream_rows (state_in x) (segment_in x)) (closes and closes and stays and closes and stays and closes and tt) (rw n))

  -- type 11
  errs : (number : ℕ) → of_message x (message.refused_with (state_in x) x.desk.message_memory x.desk.response x.packet number ERROR) ≡ refusing x number all_error
  unfolding message.refused_with
  errs number = rw (words_of_lem x.desk.words whole)

  retries : (number : ℕ) → of_message x (message.refused_with (state_in x) x.desk.message_memory x.desk.response x.packet number RETRY) ≡ refusing x number all_retry
  unfolding message.refused_with
  retries number = rw (words_of_lem x.desk.words whole)

  only_11 : is9 x.packet ≡ false → is11 x.packet ≡ true → verdict (typed_rows x) ≡ verdict (message_rows (state_in x) (message_segment_in x))
  unfolding typed_rows
  only_11 n e = rw (n, e) (second_given (stream_rows (state_in x) (segment_in x)) (message_rows (state_in x) (message_segment_in x)))

  message_typed : is9 x.packet ≡ false → is11 x.packet ≡ true → outcome x (verdict (typed_rows x)) ≡ by_parsed x (Message (message_segment_in x))
  unfolding message_rows form_rows message.message_stepped
  message_typed n e =
      ap (outcome x) (only_11 n e)
      ∙ sym (carried (of_message x) _ _ (refusing x) (accepting x) (message_rows (state_in x) (message_segment_in x)) (errs and errs and errs and errs and errs and retries and tt) (rw n))

  packet-rows : outcome x (verdict (head_rows (state_in x).setup.device (ids_in (state_in x)) x.packet ++ typed_rows x)) ≡ by_parsed x (parsed (state_in x).setup x.packet)
  unfolding parsed
  packet-rows = ap (outcome x) (verdict-joined (head_rows (state_in x).setup.device (ids_in (state_in x)) x.packet) (typed_rows x)) ∙ go (verdict (head_rows (state_in x).setup.device (ids_in (state_in x)) x.packet)) refl
    where
      by_type : Bool → Settled
      by_type b = by_parsed x (cond b (Stream (segment_in x)) (Message (message_segment_in x)))

      go : (v : Verdict) → verdict (head_rows (state_in x).setup.device (ids_in (state_in x)) x.packet) ≡ v → outcome x (or_else v (verdict (typed_rows x))) ≡ by_parsed x (parsed_by (ids_in (state_in x)) x.packet v)
      go (refuse number leaves) e =
          rw (every_row (λ (l : Leaves). l ≡ all) (head_rows (state_in x).setup.device (ids_in (state_in x)) x.packet) number leaves (head_leaves (state_in x).setup.device (ids_in (state_in x)) x.packet) e)
      go accept e =
          by_test (is9 x.packet)
          (λ n. stream_typed n ∙ sym (ap by_type n))
          (λ n. message_typed n (other_type (ids_in (state_in x)) x.packet (state_in x).setup.device (none-held _ e) n) ∙ sym (ap by_type n))

module _ (x : Lent) where
  -- rows 19 and 12
  pub refused_lent : (number : ℕ) → number ≡ lent_refusal x.desk → (number ≡ 0 → ⊥) → refusing x number all ≡ reading x
  unfolding reading table
  refused_lent number e n = sym (ap (outcome x) (joined-refuses (lent_rows x.desk) _ number all (lent_refused x.desk number e n)))

  -- what remains once they have passed
  pub by_packet : length x.desk.words ≡ state_words → named_by_19 (state_in x) ≡ false → wrong_sizes x.desk ≡ false
      → reading x ≡ by_parsed x (parsed (state_in x).setup x.packet)
  by_packet l h m = flat x ∙ (rw (eq-eqb (length x.desk.words) state_words l, h, m) (packet-rows x l))

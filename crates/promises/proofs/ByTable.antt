-- The tables decide exactly: one law over tables, and that an accepted call says no refusal.
use Prim.Native.Nat.{ℕ}
use mathlib.Core.Path.{◌≡◌, refl, ap, sym, ◌∙◌, subst}
use mathlib.Core.List.{List}
use mathlib.Core.Bool.{Bool}
use native.Mathlib.Omega.{arith}
use Rattle.lists.proofs.Tests.{chosen}
use Rattle.tables.specs.Refusals.{RowOf, Leaves, all, flow_closed, all_error, all_retry, VerdictOf, refuse, accept, verdict, by_verdict, Decides, none}
use Rattle.tables.proofs.Exactly.{answered, decided, accepted, none-held}
use Rattle.answers.specs.Answers.{Said, held, refused, AbandonSaid, abandon_refused, StreamContextSaid, stream_ask_refused, MessageContextSaid, message_ask_refused}
use Rattle.wire.specs.Parsed.{Parsed}
use Rattle.wire.specs.Parsed.{Refused, Stream, Message}
use Rattle.wire.specs.Packet.{ids_of}
use Rattle.wire.specs.Type9.{segment_of}
use Rattle.wire.specs.Type11.{is_single, message_of}
use Rattle.wire.specs.Head.{is9, head_rows}
use Rattle.wire.specs.Parsed.{parsed, parsed_by}
use Rattle.contexts.specs.State.{State, stream_in, message_in, with_stream, with_message, closed_stream, closed_message, is_free_stream, is_free_message, stream_contexts, message_contexts}
use Rattle.contexts.specs.Words.{state_of}
use Rattle.stream_rooms.specs.Placing as stream_room
use Rattle.streams.specs.Joining as stream
use Rattle.message_rooms.specs.Placing as message_room
use Rattle.messages.specs.Joining as message
use Rattle.messages.specs.Rows.{message_open}
use Rattle.reading.specs.Table.{Lent, state_in, segment_in, message_segment_in, table}
use Rattle.reading.specs.Read.{Settled, refusing, accepting, outcome, reading}
use Rattle.endpoint.specs.Calls.{setup_table, setup_by, setup}
use Rattle.answers.specs.Stands.{Stands}
use Rattle.abandoning.specs.Abandoning.{context_table, abandon_by, abandon_stream, abandon_message}
use Rattle.asking.specs.Asking.{held_in_stream, held_in_message, ask_stream, ask_message}
use Rattle.cutting.specs.Cutting.{packet_of}
use Rattle.writing.specs.Writer.{writer_table, wrote_by, writing}
use Rattle.promises.specs.ByTable.{ByTable, ReadingByTable, HeadByTable, SetupByTable, AbandonStreamByTable, AbandonMessageByTable, AskStreamByTable, AskMessageByTable, WriterByTable}

-- ---- The law: an outcome made from the verdict, where a refusal's outcome refuses by its own number and an accepted one by none

module _ {O L : Type 0} (rows : List (RowOf L)) (refuses : ℕ → O → Type 0) (by : VerdictOf L → O)
    (own : (number : ℕ) (leaves : L) → refuses number (by (refuse number leaves)))
    (only : (n number : ℕ) (leaves : L) → refuses n (by (refuse number leaves)) → number ≡ n)
    (never : (n : ℕ) → refuses n (by accept) → ⊥) where
  refused_so : (n : ℕ) (v : VerdictOf L) → verdict rows ≡ v → refuses n (by v) → (r : RowOf L) × Decides rows r × (r.number ≡ n)
  refused_so n (refuse number leaves) e s = let d = decided rows number leaves e in (d.0, d.1, d.2 ∙ only n number leaves s)
  refused_so n accept e s = absurd (never n s)

  accepted_so : (v : VerdictOf L) → verdict rows ≡ v → ((n : ℕ) → refuses n (by v) → ⊥) → none rows
  accepted_so (refuse number leaves) e f = absurd (f number (own number leaves))
  accepted_so accept e f = none-held rows e

  pub by_table : ByTable rows refuses (λ n l. by (refuse n l)) (by accept) (by (verdict rows))
  by_table = record {
    refused_exactly = λ n. (
      refused_so n (verdict rows) refl,
      λ w. subst (λ (k : ℕ). refuses k (by (verdict rows))) w.2 (subst (λ (v : VerdictOf L). refuses w.0.number (by v)) (sym (answered rows w.0 w.1)) (own w.0.number w.0.leaves)),
    );
    row_leaves = λ r d. ap by (answered rows r d);
    accepted_exactly = (λ n number s. never number (subst (λ (v : VerdictOf L). refuses number (by v)) (accepted rows n) s), accepted_so (verdict rows) refl);
    accepted_leaves = λ n. ap by (accepted rows n);
  }

-- ---- Reading

-- what is said is no refusal
abbrev no_refusal : Said → Type 0
no_refusal says = (number : ℕ) → says ≡ refused number → ⊥

held_no : no_refusal held
held_no number e = let z : ◌≡◌ {A = ℕ} 0 1 = cc in omega arith

pub number-said : (x : Lent) (number : ℕ) (leaves : Leaves) → (refusing x number leaves).says ≡ refused number
unfolding stream.refused_closing
number-said x number all = refl
number-said x number flow_closed = refl
number-said x number all_error = refl
number-said x number all_retry = refl

module _ (x : Lent) where
  stream_no : no_refusal (stream.accepted (state_in x) x.desk.stream_memory x.packet (segment_in x)).says
  unfolding stream.accepted stream_room.placed
  stream_no = chosen no_refusal (segment_in x).ends _ held (λ number e. let z : ◌≡◌ {A = ℕ} 0 1 = cc in omega arith) held_no

  placed_no : (n marks last : ℕ) → no_refusal (message_room.message_placed (state_in x) x.desk.message_memory x.desk.response x.packet (message_segment_in x) n marks last).says
  unfolding message_room.message_placed
  placed_no n marks last =
      chosen no_refusal (message_room.complete (message_segment_in x) (message_room.marks_with (message_segment_in x) marks)) _ held (λ number e. let z : ◌≡◌ {A = ℕ} 0 1 = cc in omega arith) held_no

  message_no : no_refusal (message.message_accepted (state_in x) x.desk.message_memory x.desk.response x.packet (message_segment_in x)).says
  unfolding message.message_accepted message.delivered_at_once
  message_no =
      chosen (λ (j : message_room.MessageJoined). no_refusal j.says) (is_single (message_segment_in x)) _ _ (λ number e. let z : ◌≡◌ {A = ℕ} 0 1 = cc in omega arith)
      (chosen (λ (j : message_room.MessageJoined). no_refusal j.says) (message_open (state_in x) (message_segment_in x)) _ _ (placed_no _ _ _) (placed_no _ 0 0))

  accepted_no : no_refusal (accepting x).says
  accepted_no = chosen (λ (l : Settled). no_refusal l.says) (is9 x.packet) _ _ stream_no message_no

pub reading_by_table : ReadingByTable
unfolding reading
reading_by_table x =
    by_table (table x) (λ (n : ℕ) (o : Settled). o.says ≡ refused n) (outcome x) (number-said x)
    (λ n number leaves e. let s : refused number ≡ refused n = sym (number-said x number leaves) ∙ e in cc) (accepted_no x)

-- ---- The others

pub head_by_table : HeadByTable
unfolding parsed
head_by_table settings p =
    by_table (head_rows settings.device (ids_of settings) p) (λ (n : ℕ) (o : Parsed). o ≡ Refused n) (parsed_by (ids_of settings) p) (λ number leaves. refl) (λ n number leaves e. cc)
    (λ n. chosen (λ (o : Parsed). o ≡ Refused n → ⊥) (is9 p) (Stream (segment_of (ids_of settings) p)) (Message (message_of (ids_of settings) p)) (λ e. let z : ◌≡◌ {A = ℕ} 0 1 = cc in omega arith)
    (λ e. let z : ◌≡◌ {A = ℕ} 0 1 = cc in omega arith))

pub setup_by-table : SetupByTable
unfolding setup
setup_by-table words settings =
    by_table (setup_table words settings) _ (setup_by words settings) (λ number leaves. refl) (λ n number leaves e. cc)
    (λ n e. let z : ◌≡◌ {A = ℕ} 0 1 = cc in omega arith)

-- of either kind of context
abandoning : (words : List ℕ) (contexts k : ℕ) (is_free : Bool) (after : State)
    → ByTable (context_table words contexts k) (λ (n : ℕ) (o : Stands AbandonSaid). o.says ≡ abandon_refused n) (λ n l. abandon_by words is_free after (refuse n l)) (abandon_by words is_free after accept)
    (abandon_by words is_free after (verdict (context_table words contexts k)))
abandoning words contexts k is_free after =
    by_table (context_table words contexts k) _ (abandon_by words is_free after) (λ number leaves. refl) (λ n number leaves e. cc)
    (λ n. chosen (λ (o : Stands AbandonSaid). o.says ≡ abandon_refused n → ⊥) is_free _ _ (λ e. let z : ◌≡◌ {A = ℕ} 0 1 = cc in omega arith) (λ e. let z : ◌≡◌ {A = ℕ} 0 1 = cc in omega arith))

pub abandon_stream_by_table : AbandonStreamByTable
unfolding abandon_stream
abandon_stream_by_table words k = abandoning words stream_contexts k (is_free_stream (stream_in (state_of words) k)) (with_stream (state_of words) k closed_stream)

pub abandon_message_by_table : AbandonMessageByTable
unfolding abandon_message
abandon_message_by_table words k = abandoning words message_contexts k (is_free_message (message_in (state_of words) k)) (with_message (state_of words) k closed_message)

pub ask_stream_by_table : AskStreamByTable
unfolding ask_stream
ask_stream_by_table words k =
    by_table (context_table words stream_contexts k) (λ (n : ℕ) (o : StreamContextSaid). o ≡ stream_ask_refused n)
    (by_verdict (λ (number : ℕ) (leaves : Leaves). stream_ask_refused number) (held_in_stream (stream_in (state_of words) k))) (λ number leaves. refl) (λ n number leaves e. cc)
    (λ n. chosen (λ (o : StreamContextSaid). o ≡ stream_ask_refused n → ⊥) (is_free_stream (stream_in (state_of words) k)) _ _ (λ e. let z : ◌≡◌ {A = ℕ} 0 1 = cc in omega arith)
    (λ e. let z : ◌≡◌ {A = ℕ} 0 1 = cc in omega arith))

pub ask_message_by_table : AskMessageByTable
unfolding ask_message
ask_message_by_table words k =
    by_table (context_table words message_contexts k) (λ (n : ℕ) (o : MessageContextSaid). o ≡ message_ask_refused n)
    (by_verdict (λ (number : ℕ) (leaves : Leaves). message_ask_refused number) (held_in_message (message_in (state_of words) k))) (λ number leaves. refl) (λ n number leaves e. cc)
    (λ n. chosen (λ (o : MessageContextSaid). o ≡ message_ask_refused n → ⊥) (is_free_message (message_in (state_of words) k)) _ _ (λ e. let z : ◌≡◌ {A = ℕ} 0 1 = cc in omega arith)
    (λ e. let z : ◌≡◌ {A = ℕ} 0 1 = cc in omega arith))

pub writer_by_table : WriterByTable
unfolding writing
writer_by_table out h mtu pdu k =
    by_table (writer_table out h mtu pdu k) _ (wrote_by out (packet_of h mtu pdu k)) (λ number leaves. refl) (λ n number leaves e. cc) (λ n e. let z : ◌≡◌ {A = ℕ} 0 1 = cc in omega arith)

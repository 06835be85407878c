-- What a table of refusals says of a call, said once over the table, and of each call that has one (document 01, 'Refusal numbers').
use Rattle.std.specs.Prelude.{ℕ, ◌≡◌, ◌↔◌, List, cond, length}
use Rattle.lists.specs.Bytes.{written}
use Rattle.tables.specs.Refusals.{RowOf, Leaves, Decides, none}
use Rattle.answers.specs.Answers.{refused, SetupSaid, ready, setup_refused, AbandonSaid, closed, free, abandon_refused, wrote, write_refused}
use Rattle.wire.specs.Parsed.{Parsed}
use Rattle.wire.specs.Parsed.{Refused, Stream, Message}
use Rattle.wire.specs.Type9.{segment_of}
use Rattle.wire.specs.Type11.{message_of}
use Rattle.wire.specs.Head.{is9, head_rows}
use Rattle.wire.specs.Parsed.{parsed}
use Rattle.wire.specs.declared.Setup.{Setup}
use Rattle.wire.specs.Packet.{ids_of}
use Rattle.contexts.specs.State.{fresh, stream_in, message_in, with_stream, with_message, closed_stream, closed_message, is_free_stream, is_free_message}
use Rattle.contexts.specs.State.{stream_contexts, message_contexts}
use Rattle.contexts.specs.Words.{state_of, words_of}
use Rattle.reading.specs.Table.{Lent, table}
use Rattle.reading.specs.Read.{Settled, refusing, accepting, reading}
use Rattle.endpoint.specs.Calls.{setup_table, setup_leaving, setup}
use Rattle.answers.specs.Stands.{Stands, stands}
use Rattle.abandoning.specs.Abandoning.{context_table, abandon_stream, abandon_message}
use Rattle.answers.specs.Answers.{StreamContextSaid, stream_ask_refused, MessageContextSaid, message_ask_refused}
use Rattle.asking.specs.Asking.{held_in_stream, held_in_message, ask_stream, ask_message}
use Rattle.cutting.specs.declared.Heading.{Heading}
use Rattle.cutting.specs.Cutting.{packet_of}
use Rattle.writing.specs.Writer.{Wrote, wrote_of, writer_table, writing}

-- `refuses n o`: the outcome o refuses by number n; `refusing` is the table's last column, `accepting` what is left where no row's test holds
pub record ByTable {O L : Type 0} (table : List (RowOf L)) (refuses : ℕ → O → Type 0) (refusing : ℕ → L → O) (accepting outcome : O) : Type 0 where
  -- a number is answered exactly if a row of that number has a test that holds and no earlier row has
  pub refused_exactly : (number : ℕ) → refuses number outcome ↔ ((r : RowOf L) × Decides table r × (r.number ≡ number))
  -- the row that decides also says what is left
  pub row_leaves : (r : RowOf L) → Decides table r → outcome ≡ refusing r.number r.leaves
  -- it is refused by no number exactly if no row's test holds
  pub accepted_exactly : none table ↔ ((number : ℕ) → refuses number outcome → ⊥)
  pub accepted_leaves : none table → outcome ≡ accepting

-- reading a packet: state, memories and response as the table's last column says
abbrev pub ReadingByTable : Type 0
ReadingByTable = (x : Lent) → ByTable (table x) (λ (n : ℕ) (o : Settled). o.says ≡ refused n) (refusing x) (accepting x) (reading x)

-- a packet by itself, before any context: rows 1 to 5; else the fields of its type
abbrev pub HeadByTable : Type 0
HeadByTable =
    (settings : Setup) (p : List ℕ)
    → ByTable (head_rows settings.device (ids_of settings) p) (λ (n : ℕ) (o : Parsed). o ≡ Refused n) (λ (n : ℕ) (l : Leaves). Refused n)
    (cond (is9 p) (Stream (segment_of (ids_of settings) p)) (Message (message_of (ids_of settings) p))) (parsed settings p)

-- setup: refused, it hands back a state of zeros (a buffer that is no state stays as it is); else a state of that device, MTU, R and width, all free
abbrev pub SetupByTable : Type 0
SetupByTable =
    (words : List ℕ) (settings : Setup)
    → ByTable (setup_table words settings) (λ (n : ℕ) (o : Stands SetupSaid). o.says ≡ setup_refused n)
    (λ n l. stands (setup_refused n) (setup_leaving words l)) (stands ready (words_of (fresh settings))) (setup words settings)

-- abandoning: a refusal leaves the state; else a free context stays as it is and the answer says so, an open one is closed and nothing else changes
abbrev pub AbandonStreamByTable : Type 0
AbandonStreamByTable =
    (words : List ℕ) (k : ℕ)
    → ByTable (context_table words stream_contexts k) (λ (n : ℕ) (o : Stands AbandonSaid). o.says ≡ abandon_refused n)
    (λ (n : ℕ) (l : Leaves). stands (abandon_refused n) words)
    (cond (is_free_stream (stream_in (state_of words) k)) (stands free words) (stands closed (words_of (with_stream (state_of words) k closed_stream))))
    (abandon_stream words k)

abbrev pub AbandonMessageByTable : Type 0
AbandonMessageByTable =
    (words : List ℕ) (k : ℕ)
    → ByTable (context_table words message_contexts k) (λ (n : ℕ) (o : Stands AbandonSaid). o.says ≡ abandon_refused n)
    (λ (n : ℕ) (l : Leaves). stands (abandon_refused n) words)
    (cond (is_free_message (message_in (state_of words) k)) (stands free words) (stands closed (words_of (with_message (state_of words) k closed_message))))
    (abandon_message words k)

-- asking after a context, by the same table: nothing changes; else the answer says whether it is open, and what it holds
abbrev pub AskStreamByTable : Type 0
AskStreamByTable =
    (words : List ℕ) (k : ℕ)
    → ByTable (context_table words stream_contexts k) (λ (n : ℕ) (o : StreamContextSaid). o ≡ stream_ask_refused n) (λ (n : ℕ) (l : Leaves). stream_ask_refused n)
    (held_in_stream (stream_in (state_of words) k)) (ask_stream words k)

abbrev pub AskMessageByTable : Type 0
AskMessageByTable =
    (words : List ℕ) (k : ℕ)
    → ByTable (context_table words message_contexts k) (λ (n : ℕ) (o : MessageContextSaid). o ≡ message_ask_refused n) (λ (n : ℕ) (l : Leaves). message_ask_refused n)
    (held_in_message (message_in (state_of words) k)) (ask_message words k)

-- the segment writer: a refusal changes no byte; success makes the packet of the layout, byte for byte, and changes only its bytes
abbrev pub WriterByTable : Type 0
WriterByTable =
    (out : List ℕ) (h : Heading) (mtu : ℕ) (pdu : List ℕ) (k : ℕ)
    → ByTable (writer_table out h mtu pdu k) (λ (n : ℕ) (o : Wrote). o.says ≡ write_refused n) (λ (n : ℕ) (l : Leaves). wrote_of (write_refused n) out)
    (wrote_of (wrote (length (packet_of h mtu pdu k))) (written out 0 (packet_of h mtu pdu k))) (writing out h mtu pdu k)

-- What the calls say, in document 01's words and numbers, and what each answer of the code says. Each call has answers of its own,
-- so that a new answer of one call is no new case of another. What refuses is a row of the table, and where the name ends in `_by`
-- anything that has a number.
use Rattle.std.specs.Prelude.{ℕ, ⊤, Result, Ok, Err, Option, Some, None}
use Rattle.refusals.specs.declared.Refusal.{Refusal}
use Rattle.refusals.specs.Numbers.{row_number}
use Rattle.wire.specs.declared.Flow.{Flow}
use Rattle.answers.specs.declared.Answer.{Answer}
use Rattle.answers.specs.declared.Answer.TheVariants as answer
use Rattle.answers.specs.declared.Abandoned.{Abandoned}
use Rattle.answers.specs.declared.Abandoned.TheVariants as abandoned
use Rattle.answers.specs.declared.UnfinishedPdu.{UnfinishedPdu}
use Rattle.answers.specs.declared.UnfinishedMessage.{UnfinishedMessage}

-- ---- reading a packet

pub data Said : Type 0 where
  -- a segment is held
  held : Said
  -- a PDU is delivered: context number, flow (source, priority and cos), streamID, length
  delivered : (context : ℕ) (flow : Flow) (stream_id size : ℕ) → Said
  -- a message is delivered: context number, source, letter, mailbox, length
  message : (context source letter mailbox size : ℕ) → Said
  -- a refusal, by its number
  refused : (number : ℕ) → Said

abbrev pub said_by : {R : Type 0} → (R → ℕ) → Result Answer R → Said
said_by number_of (Ok answer.Held) = held
said_by number_of (Ok (answer.Delivered context flow stream size)) = delivered context flow stream size
said_by number_of (Ok (answer.Message context source letter mailbox size)) = message context source letter mailbox size
said_by number_of (Err refusal) = refused (number_of refusal)

abbrev pub said : Result Answer Refusal → Said
said = said_by row_number

-- ---- setup

pub data SetupSaid : Type 0 where
  -- setup has made a state
  ready : SetupSaid
  setup_refused : (number : ℕ) → SetupSaid

abbrev pub said_of_setup_by : {R : Type 0} → (R → ℕ) → Result ⊤ R → SetupSaid
said_of_setup_by number_of (Ok _) = ready
said_of_setup_by number_of (Err refusal) = setup_refused (number_of refusal)

abbrev pub said_of_setup : Result ⊤ Refusal → SetupSaid
said_of_setup = said_of_setup_by row_number

-- ---- abandoning a context

pub data AbandonSaid : Type 0 where
  -- a context was abandoned
  closed : AbandonSaid
  -- the context to abandon was free
  free : AbandonSaid
  abandon_refused : (number : ℕ) → AbandonSaid

abbrev pub said_of_abandon_by : {R : Type 0} → (R → ℕ) → Result Abandoned R → AbandonSaid
said_of_abandon_by number_of (Ok abandoned.Closed) = closed
said_of_abandon_by number_of (Ok abandoned.WasFree) = free
said_of_abandon_by number_of (Err refusal) = abandon_refused (number_of refusal)

abbrev pub said_of_abandon : Result Abandoned Refusal → AbandonSaid
said_of_abandon = said_of_abandon_by row_number

-- ---- asking after a context

pub data StreamContextSaid : Type 0 where
  -- a PDU is open there: its flow (source, priority and cos), its streamID, and how many bytes of it are held
  stream_is_open : (flow : Flow) (stream_id held : ℕ) → StreamContextSaid
  stream_is_free : StreamContextSaid
  stream_ask_refused : (number : ℕ) → StreamContextSaid

abbrev pub said_of_stream_by : {R : Type 0} → (R → ℕ) → Result (Option UnfinishedPdu) R → StreamContextSaid
said_of_stream_by number_of (Ok (Some pdu)) = stream_is_open pdu.flow pdu.stream pdu.held
said_of_stream_by number_of (Ok None) = stream_is_free
said_of_stream_by number_of (Err refusal) = stream_ask_refused (number_of refusal)

abbrev pub said_of_stream : Result (Option UnfinishedPdu) Refusal → StreamContextSaid
said_of_stream = said_of_stream_by row_number

pub data MessageContextSaid : Type 0 where
  -- a message is open there: source, letter, mbox; its msglen, the bytes of its segments; which have come, and the last one's length, 0 before it came
  message_is_open : (source letter mbox msglen size marks last : ℕ) → MessageContextSaid
  message_is_free : MessageContextSaid
  message_ask_refused : (number : ℕ) → MessageContextSaid

abbrev pub said_of_message_by : {R : Type 0} → (R → ℕ) → Result (Option UnfinishedMessage) R → MessageContextSaid
said_of_message_by number_of (Ok (Some m)) = message_is_open m.source m.letter m.mbox m.msglen m.size m.marks m.last
said_of_message_by number_of (Ok None) = message_is_free
said_of_message_by number_of (Err refusal) = message_ask_refused (number_of refusal)

abbrev pub said_of_message : Result (Option UnfinishedMessage) Refusal → MessageContextSaid
said_of_message = said_of_message_by row_number

-- ---- the writers, of a segment and of a record

pub data WriterSaid : Type 0 where
  -- so many bytes were written
  wrote : (size : ℕ) → WriterSaid
  write_refused : (number : ℕ) → WriterSaid

abbrev pub said_of_writer_by : {R : Type 0} → (R → ℕ) → Result ℕ R → WriterSaid
said_of_writer_by number_of (Ok size) = wrote size
said_of_writer_by number_of (Err refusal) = write_refused (number_of refusal)

abbrev pub said_of_writer : Result ℕ Refusal → WriterSaid
said_of_writer = said_of_writer_by row_number

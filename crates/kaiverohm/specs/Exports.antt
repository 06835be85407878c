-- What the functions for C promise: the endpoint's own definitions, with the answer as numbers.
-- Each promise settles the answer and everything that is lent to be written.
use Rattle.std.specs.Prelude.{ℕ, ◌≡◌, List}
use Rattle.wire.specs.declared.Setup.{Setup}
use Rattle.reading.specs.Desk.{Desk}
use Rattle.reading.specs.Table.{Lent}
use Rattle.reading.specs.Read.{reading}
use Rattle.endpoint.specs.Calls.{setup}
use Rattle.abandoning.specs.Abandoning.{abandon_stream, abandon_message}
use Rattle.cutting.specs.declared.Heading.{Heading}
use Rattle.writing.specs.Writer.{writing}
use Rattle.c_answers.specs.declared.Numbers.{Numbers}
use Rattle.c_reports.specs.declared.Report.{Report}
use Rattle.c_answers.specs.Numbers.{numbers_of_setup, numbers_of_abandon, numbers_of_writer}
use Rattle.asking.specs.Asking.{ask_stream, ask_message}
use Rattle.c_contexts.specs.declared.OpenStream.{OpenStream}
use Rattle.c_contexts.specs.declared.OpenMessage.{OpenMessage}
use Rattle.c_contexts.specs.Open.{open_stream_of, open_message_of}
use Rattle.c_bursts.specs.Bursts.{report_for}
use Rattle.log_writer.specs.Writing.{recording}

-- the interface: it rises whenever a function, a struct or a constant of include/kaiverohm.h changes, and additions leave it
abbrev pub interface : ℕ
interface = 3

-- the promise of `kaiverohm_interface`
abbrev pub InterfacePromise : ℕ → Type 0
InterfacePromise r = r ≡ interface

-- the promise of `kaiverohm_setup`
pub record SetupFromCPromise (words : List ℕ) (settings : Setup) (r : Numbers) (after : List ℕ) : Type 0 where
  pub answer : r ≡ numbers_of_setup (setup words settings).says
  pub state : after ≡ (setup words settings).words

-- the promise of `kaiverohm_read`: the report, and the desk as it is left
pub record ReadFromCPromise (x : Lent) (r : Report) (after : Desk) : Type 0 where
  pub report : r ≡ report_for (reading x)
  pub desk : after ≡ (reading x).desk

-- the promises of `kaiverohm_abandon_stream` and `kaiverohm_abandon_message`
pub record AbandonStreamFromCPromise (words : List ℕ) (n : ℕ) (r : Numbers) (after : List ℕ) : Type 0 where
  pub answer : r ≡ numbers_of_abandon (abandon_stream words n).says
  pub state : after ≡ (abandon_stream words n).words

pub record AbandonMessageFromCPromise (words : List ℕ) (n : ℕ) (r : Numbers) (after : List ℕ) : Type 0 where
  pub answer : r ≡ numbers_of_abandon (abandon_message words n).says
  pub state : after ≡ (abandon_message words n).words

-- the promises of `kaiverohm_stream_context` and `kaiverohm_message_context`
abbrev pub StreamContextFromCPromise : List ℕ → ℕ → OpenStream → Type 0
StreamContextFromCPromise words n r = r ≡ open_stream_of (ask_stream words n)

abbrev pub MessageContextFromCPromise : List ℕ → ℕ → OpenMessage → Type 0
MessageContextFromCPromise words n r = r ≡ open_message_of (ask_message words n)

-- the promise of `kaiverohm_write_segment`
pub record WriteFromCPromise (out : List ℕ) (h : Heading) (mtu : ℕ) (pdu : List ℕ) (k : ℕ) (r : Numbers) (after : List ℕ) : Type 0 where
  pub answer : r ≡ numbers_of_writer (writing out h mtu pdu k).says
  pub packet : after ≡ (writing out h mtu pdu k).out

-- the promise of `kaiverohm_write_record`
pub record WriteRecordFromCPromise (out packet : List ℕ) (r : Numbers) (after : List ℕ) : Type 0 where
  pub answer : r ≡ numbers_of_writer (recording out packet).says
  pub written_out : after ≡ (recording out packet).out

-- The others hand on what their callees promise: `LengthPromise` (endpoint/specs/Calls.antt), `CountPromise` (writing/specs/Writer.antt),
-- `StreamPlacePromise` and `MessagePlacePromise` (c_places/specs/Places.antt), `BurstPromise` (c_bursts/specs/Bursts.antt),
-- `RecordLengthPromise` (log_writer/specs/Writing.antt).

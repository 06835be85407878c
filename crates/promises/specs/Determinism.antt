-- Determinism: of each call, any two outcomes that its promise allows are one, in the answer, the state and every lent byte. No exceptions.
use Rattle.std.specs.Prelude.{ℕ, ◌≡◌, List, Result, ⊤}
use Rattle.std.specs.Borrow.{Bor}
use Rattle.answers.specs.declared.Reading.{Reading}
use Rattle.answers.specs.declared.Abandoned.{Abandoned}
use Rattle.refusals.specs.declared.Refusal.{Refusal}
use Rattle.answers.specs.Once.{Outcome, OneOutcome}
use Rattle.wire.specs.declared.Setup.{Setup}
use Rattle.reading.specs.Desk.{Desk}
use Rattle.reading.specs.Table.{Lent}
use Rattle.reading.specs.Read.{ReadPromise}
use Rattle.endpoint.specs.Calls.{SetupPromise, LengthPromise}
use Rattle.abandoning.specs.Abandoning.{AbandonStreamPromise, AbandonMessagePromise}
use Rattle.asking.specs.Asking.{StreamContextPromise, MessageContextPromise}
use Rattle.room_parts.specs.Parts.{StreamRoomPromise, MessageRoomPromise}
use Rattle.cutting.specs.declared.Heading.{Heading}
use Rattle.writing.specs.Writer.{WritePromise, CountPromise}

-- a room that is handed back: its place in the caller's memory and its bytes
abbrev pub OneRoom : (Bor (List ℕ) → Type 0) → Type 0
OneRoom allowed = (r r' : Bor (List ℕ)) → allowed r → allowed r' → (r.ref_ptr.0 ≡ r'.ref_ptr.0) × (r.ref_ptr.1 ≡ r'.ref_ptr.1) × (r.now ≡ r'.now)

pub record OneOutcomeEach : Type 0 where
  pub state_length : OneOutcome LengthPromise
  pub setup : (words : List ℕ) (settings : Setup) → OneOutcome (λ (y : Outcome (Result ⊤ Refusal) (List ℕ)). SetupPromise words settings y.answer y.after)
  pub read : (x : Lent) → OneOutcome (λ (y : Outcome (Reading Refusal) Desk). ReadPromise x y.answer y.after)
  pub abandon_stream_lem : (words : List ℕ) (n : ℕ) → OneOutcome (λ (y : Outcome (Result Abandoned Refusal) (List ℕ)). AbandonStreamPromise words n y.answer y.after)
  pub abandon_message_lem : (words : List ℕ) (n : ℕ) → OneOutcome (λ (y : Outcome (Result Abandoned Refusal) (List ℕ)). AbandonMessagePromise words n y.answer y.after)
  pub stream_context : (words : List ℕ) (n : ℕ) → OneOutcome (StreamContextPromise words n)
  pub message_context_lem : (words : List ℕ) (n : ℕ) → OneOutcome (MessageContextPromise words n)
  pub stream_room_lem : (words : List ℕ) (memory : Bor (List ℕ)) (n l : ℕ) → OneRoom (StreamRoomPromise words memory n l)
  pub message_room_lem : (words : List ℕ) (memory : Bor (List ℕ)) (n l : ℕ) → OneRoom (MessageRoomPromise words memory n l)
  pub segment_count_lem : (mtu size : ℕ) → OneOutcome (CountPromise mtu size)
  pub write_segment : (out : List ℕ) (h : Heading) (mtu : ℕ) (pdu : List ℕ) (k : ℕ) → OneOutcome (λ (y : Outcome (Result ℕ Refusal) (List ℕ)). WritePromise out h mtu pdu k y.answer y.after)

-- Any two outcomes that a promise allows are one: each promise is an equation, and an answer is determined by what it says.
use Rattle.std.specs.Prelude.{Result}
use Prim.Native.Nat.{ℕ}
use mathlib.Core.Path.{◌≡◌, ap, ap₂, sym, ◌∙◌}
use mathlib.Core.List.{List}
use mathlib.Core.Bool.{Bool}
use denote.Ref.{Bor}
use Rattle.refusals.specs.declared.Refusal.{Refusal}
use Rattle.answers.specs.declared.Answer.{Answer}
use Rattle.answers.specs.declared.Reading.{Reading}
use Rattle.answers.specs.declared.Abandoned.{Abandoned}
use Rattle.answers.specs.Answers.{SetupSaid, AbandonSaid, said_of_abandon}
use Rattle.answers.specs.Once.{Outcome, OneOutcome}
use Rattle.answers.proofs.Once.{said-once, setup-once, abandon_once, stream_once, message_once, writer_once, both}
use Rattle.reading.specs.Read.{Settled}
use Rattle.answers.specs.Stands.{Stands, stands}
use Rattle.room_parts.specs.Parts.{Part, IsPart}
use Rattle.writing.specs.Writer.{Wrote}
use Rattle.promises.specs.Determinism.{OneRoom, OneOutcomeEach}

-- a reading is its answer, whether it dropped a PDU, and its count
same-reading : (r r' : Reading Refusal) → r.answer ≡ r'.answer → r.dropped ≡ r'.dropped → r.response ≡ r'.response → r ≡ r'
same-reading r r' a d n =
    ap₂ (λ (x : Result Answer Refusal) (y : Bool). record { answer = x; dropped = y; response = r.response }) a d
    ∙ ap (λ (k : ℕ). record { answer = r'.answer; dropped = r'.dropped; response = k }) n

-- of either kind of context
abandoned : (promised : Stands AbandonSaid) → OneOutcome (λ (y : Outcome (Result Abandoned Refusal) (List ℕ)). stands (said_of_abandon y.answer) y.after ≡ promised)
abandoned promised y z p q =
    let e = p ∙ sym q in
    both (abandon_once y.answer z.answer (ap (λ (l : Stands AbandonSaid). l.says) e)) (ap (λ (l : Stands AbandonSaid). l.words) e)

room : (memory : Bor (List ℕ)) (p : Part) → OneRoom (IsPart memory p)
room memory p r r' a b = (a.block ∙ sym b.block, a.offset ∙ sym b.offset, a.bytes ∙ sym b.bytes)

pub one_outcome_each : OneOutcomeEach
one_outcome_each = record {
  state_length = λ y z p q. p ∙ sym q;
  setup = λ words settings y z p q.
      let e = p ∙ sym q in
      both (setup-once y.answer z.answer (ap (λ (l : Stands SetupSaid). l.says) e)) (ap (λ (l : Stands SetupSaid). l.words) e);
  read = λ x y z p q.
      let e = p ∙ sym q in
      both
      (same-reading y.answer z.answer (said-once y.answer.answer z.answer.answer (ap (λ (l : Settled). l.says) e))
      (ap (λ (l : Settled). l.dropped) e) (ap (λ (l : Settled). l.replied) e))
      (ap (λ (l : Settled). l.desk) e);
  abandon_stream_lem = λ words n. abandoned _;
  abandon_message_lem = λ words n. abandoned _;
  stream_context = λ words n y z p q. stream_once y z (p ∙ sym q);
  message_context_lem = λ words n y z p q. message_once y z (p ∙ sym q);
  stream_room_lem = λ words memory n l. room memory _;
  message_room_lem = λ words memory n l. room memory _;
  segment_count_lem = λ mtu size y z p q. p ∙ sym q;
  write_segment = λ out h mtu pdu k y z p q.
      let e = p ∙ sym q in
      both (writer_once y.answer z.answer (ap (λ (l : Wrote). l.says) e)) (ap (λ (l : Wrote). l.out) e);
}

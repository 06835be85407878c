-- An answer and what it says determine each other: no two cases of an enum say the same, and whatever can be said, a case says it. So it is of
-- whatever refuses, where its number determines it: of the rows of the table, and of numbers of the caller's own.
use mathlib.Core.Path.{◌≡◌, refl, ap, ap₂, sym, ◌∙◌}
use Rattle.std.specs.Prelude.{ℕ, ⊤, Result, Ok, Err, Option, Some, None}
use Rattle.refusals.specs.declared.Refusal.{Refusal}
use Rattle.refusals.specs.Numbers.{row_number}
use Rattle.refusals.proofs.Back.{refusal_of, back, IsRow}
use Rattle.wire.specs.declared.Flow.{Flow}
use Rattle.answers.specs.declared.Answer.{Answer}
use Rattle.answers.specs.declared.Answer.TheVariants as answer
use Rattle.answers.specs.declared.Abandoned.{Abandoned}
use Rattle.answers.specs.declared.Abandoned.TheVariants as abandoned
use Rattle.answers.specs.declared.UnfinishedPdu.{UnfinishedPdu}
use Rattle.answers.specs.declared.UnfinishedMessage.{UnfinishedMessage}
use Rattle.answers.specs.Answers.{Said, held, delivered, message, refused, said_by, said, SetupSaid, ready, setup_refused, said_of_setup_by, said_of_setup}
use Rattle.answers.specs.Answers.{AbandonSaid, closed, free, abandon_refused, said_of_abandon_by, said_of_abandon, WriterSaid, wrote, write_refused, said_of_writer_by, said_of_writer}
use Rattle.answers.specs.Answers.{StreamContextSaid, stream_is_open, stream_is_free, stream_ask_refused, said_of_stream_by, said_of_stream}
use Rattle.answers.specs.Answers.{MessageContextSaid, message_is_open, message_is_free, message_ask_refused, said_of_message_by, said_of_message}
use Rattle.answers.specs.Once.{Outcome}

-- where `back` undoes `says`, what is said determines the answer
once : {A S : Type 0} (says : A → S) (back : S → A) → ((a : A) → back (says a) ≡ a) → (a b : A) → says a ≡ says b → a ≡ b
once says back same a b e = sym (same a) ∙ (ap back e ∙ same b)

-- what refuses, by its number
abbrev pub Undoes : {R : Type 0} → (ℕ → R) → (R → ℕ) → Type 0
Undoes {R} undo number_of = (r : R) → undo (number_of r) ≡ r

-- a number of the caller's own is its number
pub own : Undoes (λ (n : ℕ). n) (λ (n : ℕ). n)
own n = refl

-- ---- reading a packet

abbrev pub answer_by : {R : Type 0} → (ℕ → R) → Said → Result Answer R
answer_by undo held = Ok answer.Held
answer_by undo (delivered context flow stream size) = Ok (answer.Delivered context flow stream size)
answer_by undo (message context source letter mailbox size) = Ok (answer.Message context source letter mailbox size)
answer_by undo (refused number) = Err (undo number)

answer_back : {R : Type 0} (undo : ℕ → R) (number_of : R → ℕ) → Undoes undo number_of → (a : Result Answer R) → answer_by undo (said_by number_of a) ≡ a
answer_back undo number_of u (Ok answer.Held) = refl
answer_back undo number_of u (Ok (answer.Delivered _ _ _ _)) = refl
answer_back undo number_of u (Ok (answer.Message _ _ _ _ _)) = refl
answer_back undo number_of u (Err r) = ap Err (u r)

pub said_by_once : {R : Type 0} (undo : ℕ → R) (number_of : R → ℕ) → Undoes undo number_of → (a b : Result Answer R) → said_by number_of a ≡ said_by number_of b → a ≡ b
said_by_once undo number_of u = once (said_by number_of) (answer_by undo) (answer_back undo number_of u)

pub answer_of : Said → Result Answer Refusal
answer_of = answer_by refusal_of

pub said-once : (a b : Result Answer Refusal) → said a ≡ said b → a ≡ b
said-once = said_by_once refusal_of row_number back

-- whatever can be said, an answer with a number of the caller's own says it
pub says_it : (s : Said) → said_by (λ (n : ℕ). n) (answer_by (λ (n : ℕ). n) s) ≡ s
says_it held = refl
says_it (delivered _ _ _ _) = refl
says_it (message _ _ _ _ _) = refl
says_it (refused _) = refl

-- what can be said where a row refuses: a refusal by a number of the table, and all that is no refusal
abbrev pub Sayable : Said → Type 0
Sayable s = said (answer_of s) ≡ s

pub held_sayable : Sayable held
unfolding answer_of
held_sayable = refl

pub delivered_sayable : (context : ℕ) (flow : Flow) (stream size : ℕ) → Sayable (delivered context flow stream size)
unfolding answer_of
delivered_sayable _ _ _ _ = refl

pub message_sayable : (context source letter mailbox size : ℕ) → Sayable (message context source letter mailbox size)
unfolding answer_of
message_sayable _ _ _ _ _ = refl

pub refused_sayable : (number : ℕ) → IsRow number → Sayable (refused number)
unfolding answer_of
refused_sayable number e = ap refused e

-- ---- setup

begun_of : {R : Type 0} → (ℕ → R) → SetupSaid → Result ⊤ R
begun_of undo ready = Ok tt
begun_of undo (setup_refused number) = Err (undo number)

setup_back : {R : Type 0} (undo : ℕ → R) (number_of : R → ℕ) → Undoes undo number_of → (a : Result ⊤ R) → begun_of undo (said_of_setup_by number_of a) ≡ a
unfolding begun_of
setup_back undo number_of u (Ok _) = refl
setup_back undo number_of u (Err r) = ap Err (u r)

pub setup_by_once : {R : Type 0} (undo : ℕ → R) (number_of : R → ℕ) → Undoes undo number_of
    → (a b : Result ⊤ R) → said_of_setup_by number_of a ≡ said_of_setup_by number_of b → a ≡ b
setup_by_once undo number_of u = once (said_of_setup_by number_of) (begun_of undo) (setup_back undo number_of u)

pub setup-once : (a b : Result ⊤ Refusal) → said_of_setup a ≡ said_of_setup b → a ≡ b
setup-once = setup_by_once refusal_of row_number back

-- ---- abandoning a context

abandoned_of : {R : Type 0} → (ℕ → R) → AbandonSaid → Result Abandoned R
abandoned_of undo closed = Ok abandoned.Closed
abandoned_of undo free = Ok abandoned.WasFree
abandoned_of undo (abandon_refused number) = Err (undo number)

abandon_back : {R : Type 0} (undo : ℕ → R) (number_of : R → ℕ) → Undoes undo number_of → (a : Result Abandoned R) → abandoned_of undo (said_of_abandon_by number_of a) ≡ a
unfolding abandoned_of
abandon_back undo number_of u (Ok abandoned.Closed) = refl
abandon_back undo number_of u (Ok abandoned.WasFree) = refl
abandon_back undo number_of u (Err r) = ap Err (u r)

pub abandon_by_once : {R : Type 0} (undo : ℕ → R) (number_of : R → ℕ) → Undoes undo number_of
    → (a b : Result Abandoned R) → said_of_abandon_by number_of a ≡ said_of_abandon_by number_of b → a ≡ b
abandon_by_once undo number_of u = once (said_of_abandon_by number_of) (abandoned_of undo) (abandon_back undo number_of u)

pub abandon_once : (a b : Result Abandoned Refusal) → said_of_abandon a ≡ said_of_abandon b → a ≡ b
abandon_once = abandon_by_once refusal_of row_number back

-- ---- asking after a context

stream_asked_of : {R : Type 0} → (ℕ → R) → StreamContextSaid → Result (Option UnfinishedPdu) R
stream_asked_of undo (stream_is_open flow stream_id size) = Ok (Some (record { flow = flow; stream = stream_id; held = size }))
stream_asked_of undo stream_is_free = Ok None
stream_asked_of undo (stream_ask_refused number) = Err (undo number)

stream_back : {R : Type 0} (undo : ℕ → R) (number_of : R → ℕ) → Undoes undo number_of → (a : Result (Option UnfinishedPdu) R)
    → stream_asked_of undo (said_of_stream_by number_of a) ≡ a
unfolding stream_asked_of
stream_back undo number_of u (Ok (Some _)) = refl
stream_back undo number_of u (Ok None) = refl
stream_back undo number_of u (Err r) = ap Err (u r)

pub stream_by_once : {R : Type 0} (undo : ℕ → R) (number_of : R → ℕ) → Undoes undo number_of
    → (a b : Result (Option UnfinishedPdu) R) → said_of_stream_by number_of a ≡ said_of_stream_by number_of b → a ≡ b
stream_by_once undo number_of u = once (said_of_stream_by number_of) (stream_asked_of undo) (stream_back undo number_of u)

pub stream_once : (a b : Result (Option UnfinishedPdu) Refusal) → said_of_stream a ≡ said_of_stream b → a ≡ b
stream_once = stream_by_once refusal_of row_number back

message_asked_of : {R : Type 0} → (ℕ → R) → MessageContextSaid → Result (Option UnfinishedMessage) R
message_asked_of undo (message_is_open source letter mbox msglen size marks last) =
    Ok (Some (record { source = source; letter = letter; mbox = mbox; msglen = msglen; size = size; marks = marks; last = last }))
message_asked_of undo message_is_free = Ok None
message_asked_of undo (message_ask_refused number) = Err (undo number)

mail_back : {R : Type 0} (undo : ℕ → R) (number_of : R → ℕ) → Undoes undo number_of → (a : Result (Option UnfinishedMessage) R)
    → message_asked_of undo (said_of_message_by number_of a) ≡ a
unfolding message_asked_of
mail_back undo number_of u (Ok (Some _)) = refl
mail_back undo number_of u (Ok None) = refl
mail_back undo number_of u (Err r) = ap Err (u r)

pub message_by_once : {R : Type 0} (undo : ℕ → R) (number_of : R → ℕ) → Undoes undo number_of
    → (a b : Result (Option UnfinishedMessage) R) → said_of_message_by number_of a ≡ said_of_message_by number_of b → a ≡ b
message_by_once undo number_of u = once (said_of_message_by number_of) (message_asked_of undo) (mail_back undo number_of u)

pub message_once : (a b : Result (Option UnfinishedMessage) Refusal) → said_of_message a ≡ said_of_message b → a ≡ b
message_once = message_by_once refusal_of row_number back

-- ---- the segment writer

written_of : {R : Type 0} → (ℕ → R) → WriterSaid → Result ℕ R
written_of undo (wrote size) = Ok size
written_of undo (write_refused number) = Err (undo number)

writer_back : {R : Type 0} (undo : ℕ → R) (number_of : R → ℕ) → Undoes undo number_of → (a : Result ℕ R) → written_of undo (said_of_writer_by number_of a) ≡ a
unfolding written_of
writer_back undo number_of u (Ok _) = refl
writer_back undo number_of u (Err r) = ap Err (u r)

pub writer_by_once : {R : Type 0} (undo : ℕ → R) (number_of : R → ℕ) → Undoes undo number_of
    → (a b : Result ℕ R) → said_of_writer_by number_of a ≡ said_of_writer_by number_of b → a ≡ b
writer_by_once undo number_of u = once (said_of_writer_by number_of) (written_of undo) (writer_back undo number_of u)

pub writer_once : (a b : Result ℕ Refusal) → said_of_writer a ≡ said_of_writer b → a ≡ b
writer_once = writer_by_once refusal_of row_number back

-- outcomes with one answer that leave the same are one
pub both : {Answer After : Type 0} {y z : Outcome Answer After} → y.answer ≡ z.answer → y.after ≡ z.after → y ≡ z
both {Answer = Answer} {After = After} e f = ap₂ (λ (a : Answer) (l : After). record { answer = a; after = l }) e f

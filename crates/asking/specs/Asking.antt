-- Asking after a context, a call that the paper does not have: refused as abandoning it is (19, 12 and 13); else whether it is open, and what it
-- holds.
use Rattle.std.specs.Prelude.{ℕ, ◌≡◌, List, cond, Result, Option}
use Rattle.tables.specs.Refusals.{Leaves, verdict, by_verdict}
use Rattle.answers.specs.Answers.{StreamContextSaid, stream_is_open, stream_is_free, stream_ask_refused, said_of_stream}
use Rattle.answers.specs.Answers.{MessageContextSaid, message_is_open, message_is_free, message_ask_refused, said_of_message}
use Rattle.answers.specs.declared.UnfinishedPdu.{UnfinishedPdu}
use Rattle.answers.specs.declared.UnfinishedMessage.{UnfinishedMessage}
use Rattle.refusals.specs.declared.Refusal.{Refusal}
use Rattle.sizes.specs.Sizes.{bytes_of}
use Rattle.contexts.specs.declared.StreamContext.{StreamContext}
use Rattle.contexts.specs.declared.MessageContext.{MessageContext}
use Rattle.contexts.specs.State.{stream_in, message_in, is_free_stream, is_free_message, stream_contexts, message_contexts}
use Rattle.contexts.specs.Words.{state_of}
use Rattle.answers.specs.Answers.{AbandonSaid, closed, free, abandon_refused}
use Rattle.abandoning.specs.Abandoning.{context_table, abandon_stream, abandon_message}

-- what a context holds; the size of a segment in bytes, not its code
abbrev pub held_in_stream : StreamContext → StreamContextSaid
held_in_stream c = cond (is_free_stream c) stream_is_free (stream_is_open c.flow c.stream c.held)

abbrev pub held_in_message : MessageContext → MessageContextSaid
held_in_message c =
    cond (is_free_message c) message_is_free (message_is_open c.source c.letter c.mbox c.msglen (bytes_of c.ssize) c.marks c.last)

unfoldable pub ask_stream : List ℕ → ℕ → StreamContextSaid
ask_stream words n =
    by_verdict (λ (number : ℕ) (leaves : Leaves). stream_ask_refused number) (held_in_stream (stream_in (state_of words) n)) (verdict (context_table words stream_contexts n))

unfoldable pub ask_message : List ℕ → ℕ → MessageContextSaid
ask_message words n =
    by_verdict (λ (number : ℕ) (leaves : Leaves). message_ask_refused number) (held_in_message (message_in (state_of words) n)) (verdict (context_table words message_contexts n))

-- what abandoning the same context says: closed where it is open, free where it is free, and refused alike
abbrev pub abandons_stream : StreamContextSaid → AbandonSaid
abandons_stream (stream_is_open flow stream_id held) = closed
abandons_stream stream_is_free = free
abandons_stream (stream_ask_refused number) = abandon_refused number

abbrev pub abandons_message : MessageContextSaid → AbandonSaid
abandons_message (message_is_open source letter mbox msglen size marks last) = closed
abandons_message message_is_free = free
abandons_message (message_ask_refused number) = abandon_refused number

pub record AsksAsAbandons : Type 0 where
  pub stream : (words : List ℕ) (n : ℕ) → (abandon_stream words n).says ≡ abandons_stream (ask_stream words n)
  pub message : (words : List ℕ) (n : ℕ) → (abandon_message words n).says ≡ abandons_message (ask_message words n)

abbrev pub StreamContextPromise : List ℕ → ℕ → Result (Option UnfinishedPdu) Refusal → Type 0
StreamContextPromise words n r = said_of_stream r ≡ ask_stream words n

abbrev pub MessageContextPromise : List ℕ → ℕ → Result (Option UnfinishedMessage) Refusal → Type 0
MessageContextPromise words n r = said_of_message r ≡ ask_message words n

-- Asking after a context and abandoning it go by one table, and by whether it is open.
use Prim.Native.Nat.{ℕ}
use mathlib.Core.Path.{◌≡◌, refl}
use mathlib.Core.List.{List}
use mathlib.Core.Bool.{Bool, true, false, cond}
use Rattle.tables.specs.Refusals.{Leaves, Verdict, refuse, accept, verdict, by_verdict}
use Rattle.answers.specs.Answers.{AbandonSaid, closed, free, abandon_refused}
use Rattle.contexts.specs.State.{State, stream_in, message_in, with_stream, with_message, closed_stream, closed_message, is_free_stream, is_free_message, stream_contexts, message_contexts}
use Rattle.contexts.specs.Words.{state_of}
use Rattle.answers.specs.Answers.{stream_ask_refused, message_ask_refused, stream_is_free, message_is_free}
use Rattle.abandoning.specs.Abandoning.{context_table, abandon_by, abandon_stream, abandon_message}
use Rattle.asking.specs.Asking.{ask_stream, ask_message, abandons_stream, abandons_message, AsksAsAbandons}

-- of either kind: `says` is what abandoning says of what was asked
alike : {S : Type 0} (says : S → AbandonSaid) (refusing : ℕ → S) (is_free is_open : S) → ((number : ℕ) → says (refusing number) ≡ abandon_refused number) → says is_free ≡ free → says is_open ≡ closed
    → (words : List ℕ) (after : State) (v : Verdict) (b : Bool)
    → (abandon_by words b after v).says ≡ says (by_verdict (λ (number : ℕ) (leaves : Leaves). refusing number) (cond b is_free is_open) v)
alike says refusing is_free is_open r f o words after (refuse number leaves) b = rw (r number)
alike says refusing is_free is_open r f o words after accept true = rw f
alike says refusing is_free is_open r f o words after accept false = rw o

pub asks_as_abandons : AsksAsAbandons
unfolding ask_stream ask_message abandon_stream abandon_message
asks_as_abandons = record {
  stream = λ words n.
      alike abandons_stream stream_ask_refused stream_is_free _ (λ number. refl) refl refl words (with_stream (state_of words) n closed_stream)
      (verdict (context_table words stream_contexts n)) (is_free_stream (stream_in (state_of words) n));
  message = λ words n.
      alike abandons_message message_ask_refused message_is_free _ (λ number. refl) refl refl words (with_message (state_of words) n closed_message)
      (verdict (context_table words message_contexts n)) (is_free_message (message_in (state_of words) n));
}

-- Laws of asking after a context, of either kind: what each way through the code answers is what the definition says.
use Prim.Native.Nat.{ℕ}
use mathlib.Core.Path.{◌≡◌, ap, sym, ◌∙◌}
use mathlib.Core.List.{List}
use mathlib.Core.Bool.{true, false}
use Rattle.tables.specs.Refusals.{Leaves, verdict, by_verdict}
use Rattle.answers.specs.Answers.{stream_is_open, stream_is_free, message_is_open, message_is_free}
use Rattle.sizes.specs.Sizes.{bytes_of}
use Rattle.contexts.specs.declared.StreamContext.{StreamContext}
use Rattle.contexts.specs.declared.MessageContext.{MessageContext}
use Rattle.contexts.specs.State.{is_free_stream, is_free_message}
use Rattle.abandoning.specs.Abandoning.{context_table, context_refusal}
use Rattle.abandoning.proofs.Laws.{context_refused, context_accepted}
use Rattle.asking.specs.Asking.{held_in_stream, held_in_message}

-- by the table: refused, or what the context holds
module _ {S : Type 0} (refusing : ℕ → S) (holds : S) (words : List ℕ) (contexts n : ℕ) where
  abbrev asked : S
  asked = by_verdict (λ (number : ℕ) (leaves : Leaves). refusing number) holds (verdict (context_table words contexts n))

  pub ask_refused : (number : ℕ) → number ≡ context_refusal words contexts n → (number ≡ 0 → ⊥) → refusing number ≡ asked
  ask_refused number e z = sym (ap (by_verdict (λ (number : ℕ) (leaves : Leaves). refusing number) holds) (context_refused words contexts n number e z))

  pub ask_held : {says : S} → context_refusal words contexts n ≡ 0 → says ≡ holds → says ≡ asked
  ask_held passed e = e ∙ sym (ap (by_verdict (λ (number : ℕ) (leaves : Leaves). refusing number) holds) (context_accepted words contexts n passed))

-- a context that was read, and is the one asked after: free or open
module _ {c own : StreamContext} (e : c ≡ own) where
  pub stream_free : is_free_stream c ≡ true → stream_is_free ≡ held_in_stream own
  stream_free f = rw (← e, f)

  pub stream_open : is_free_stream c ≡ false → stream_is_open c.flow c.stream c.held ≡ held_in_stream own
  stream_open f = rw (← e, f)

module _ {c own : MessageContext} (e : c ≡ own) where
  pub message_free : is_free_message c ≡ true → message_is_free ≡ held_in_message own
  message_free f = rw (← e, f)

  pub message_open_lem : {size : ℕ} → size ≡ bytes_of c.ssize → is_free_message c ≡ false
      → message_is_open c.source c.letter c.mbox c.msglen size c.marks c.last ≡ held_in_message own
  message_open_lem z f = rw (← e, f, z)

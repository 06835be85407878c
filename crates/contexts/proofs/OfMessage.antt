-- Laws of the test whether a context is the open one of a message.
use Prim.Native.Nat.{ℕ}
use mathlib.Core.Path.{◌≡◌}
use mathlib.Core.Bool.{false, not, and-true, and-false}
use lib.Dec.{eqb}
use borrow.Author.Tests.{eq-eqb, ne_eqb}
use Rattle.contexts.specs.declared.MessageContext.{MessageContext}
use Rattle.contexts.specs.State.{is_of_message, is_free_message}

module _ (c : MessageContext) (source letter mbox : ℕ) where
  -- a context of that source, letter and mbox is the message's if it is open
  pub of_message_lem : c.source ≡ source → c.letter ≡ letter → c.mbox ≡ mbox → not (eqb c.live 0) ≡ is_of_message source letter mbox c
  unfolding is_of_message is_free_message
  of_message_lem s l m = rw (eq-eqb c.source source s, eq-eqb c.letter letter l, eq-eqb c.mbox mbox m, and-true (not (eqb c.live 0)))

  -- a context is not the message's if one of the three is another
  pub another-source : (c.source ≡ source → ⊥) → false ≡ is_of_message source letter mbox c
  unfolding is_of_message is_free_message
  another-source o = rw (ne_eqb c.source source o, and-false (not (eqb c.live 0)))

  pub another-letter : (c.letter ≡ letter → ⊥) → false ≡ is_of_message source letter mbox c
  unfolding is_of_message is_free_message
  another-letter o = rw (ne_eqb c.letter letter o, and-false (eqb c.source source), and-false (not (eqb c.live 0)))

  pub another-mbox : (c.mbox ≡ mbox → ⊥) → false ≡ is_of_message source letter mbox c
  unfolding is_of_message is_free_message
  another-mbox o = rw (ne_eqb c.mbox mbox o, and-false (eqb c.letter letter), and-false (eqb c.source source), and-false (not (eqb c.live 0)))

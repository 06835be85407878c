-- Laws of a call on one context, of either kind: what it is refused with, what is known where it is not, and what abandoning leaves.
use Prim.Native.Nat.{ℕ, ◌≤◌, ◌<◌}
use mathlib.Core.Path.{◌≡◌, refl, ap, sym, ◌∙◌}
use mathlib.Core.List.{List, [], ◌∷◌}
use mathlib.Core.Bool.{Bool, true, false, not}
use native.Mathlib.Omega.{arith}
use lib.Dec.{ltb}
use lib.ListN.{length}
use borrow.Author.Tests.{lt-ltb, le-ltb, eqb-true, ltb-true, not-false}
use Rattle.answers.specs.Answers.{free, closed, abandon_refused}
use Rattle.answers.specs.Stands.{stands}
use Rattle.tables.specs.Refusals.{row, all, refuse, accept, number_of, verdict, none}
use Rattle.tables.proofs.Exactly.{none-held}
use Rattle.tables.proofs.Joined.{joined-refuses, joined_passes}
use Rattle.tables.proofs.Numbers.{number_refused, number-accepted}
use Rattle.contexts.specs.State.{State}
use Rattle.contexts.specs.Words.{state_of, state_words}
use Rattle.contexts.proofs.Words.{words_of_lem}
use Rattle.lent_state.specs.Lent.{state_rows, state_refusal}
use Rattle.lent_state.proofs.Lent.{state_refused, state_passed}
use Rattle.abandoning.specs.Abandoning.{context_table, context_refusal, abandon_by}

module _ (words : List ℕ) (contexts n : ℕ) where
  -- ---- 19 and 12, then 13, by what the code asks
  pub lent-refuses : (number : ℕ) → number ≡ state_refusal words → (number ≡ 0 → ⊥) → number ≡ context_refusal words contexts n
  unfolding context_table context_refusal
  lent-refuses number e z = sym (ap number_of (joined-refuses (state_rows words) _ number all (state_refused words number e z)))

  module _ (fine : state_refusal words ≡ 0) where
    by_13 : verdict (context_table words contexts n) ≡ verdict (row 13 (not (ltb n contexts)) all ∷ [])
    unfolding context_table
    by_13 = joined_passes (state_rows words) _ (state_passed words fine)

    pub past-refuses : contexts ≤ n → 13 ≡ context_refusal words contexts n
    unfolding context_refusal verdict
    past-refuses k = sym (ap number_of by_13 ∙ rw (le-ltb n contexts k))

    pub one_accepts : n < contexts → 0 ≡ context_refusal words contexts n
    unfolding context_refusal verdict
    one_accepts k = sym (ap number_of by_13 ∙ rw (lt-ltb n contexts k))

  -- ---- and back: the table's verdict by the number, and what is known where that is 0
  pub context_refused : (number : ℕ) → number ≡ context_refusal words contexts n → (number ≡ 0 → ⊥) → verdict (context_table words contexts n) ≡ refuse number all
  unfolding context_table context_refusal
  context_refused number = number_refused all _ number (refl, (refl, (refl, tt)))

  module _ (passed : context_refusal words contexts n ≡ 0) where
    pub context_accepted : verdict (context_table words contexts n) ≡ accept
    unfolding context_table context_refusal
    context_accepted = number-accepted _ (λ e. omega arith, (λ e. omega arith, (λ e. omega arith, tt))) passed

    -- there is such a context, in as many words as a state has
    pub context_there : (n < contexts) × (length words ≡ state_words)
    unfolding context_table none
    context_there =
        let rows : none (context_table words contexts n) = none-held (context_table words contexts n) context_accepted in
        (ltb-true n contexts (not-false _ rows.1.1.0), eqb-true (length words) state_words (not-false _ rows.1.0))

-- ---- what abandoning leaves
module _ (words : List ℕ) (contexts n : ℕ) (is_free : Bool) (after : State) where
  pub abandon_refused_lem : (number : ℕ) → number ≡ context_refusal words contexts n → (number ≡ 0 → ⊥)
      → stands (abandon_refused number) words ≡ abandon_by words is_free after (verdict (context_table words contexts n))
  abandon_refused_lem number e z = sym (ap (abandon_by words is_free after) (context_refused words contexts n number e z))

  module _ (passed : context_refusal words contexts n ≡ 0) where
    accepts : abandon_by words is_free after (verdict (context_table words contexts n)) ≡ abandon_by words is_free after accept
    accepts = ap (abandon_by words is_free after) (context_accepted words contexts n passed)

    pub abandon_free : is_free ≡ true → stands free words ≡ abandon_by words is_free after (verdict (context_table words contexts n))
    abandon_free f = sym (accepts ∙ rw f)

    pub abandon_closed : (words' : List ℕ) → length words' ≡ state_words → state_of words' ≡ after → is_free ≡ false
        → stands closed words' ≡ abandon_by words is_free after (verdict (context_table words contexts n))
    abandon_closed words' z e f = sym (accepts ∙ rw (f, ← e) (ap (stands closed) (words_of_lem words' z)))

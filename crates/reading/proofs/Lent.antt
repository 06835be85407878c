-- Laws of what everything lent is refused with: the state first, then the sizes; and what is known where it is refused with nothing.
use Prim.Native.Nat.{ℕ}
use mathlib.Core.Path.{◌≡◌, refl, sym, ◌∙◌}
use mathlib.Core.Bool.{Bool, true, false, cond, not, ◌||◌, ◌&&◌}
use native.Mathlib.Omega.{arith}
use lib.ListN.{length}
use lib.Dec.{eqb}
use borrow.Author.Tests.{ne_eqb, eqb-true, not-false}
use Rattle.lists.proofs.Tests.{neither, not-second}
use Rattle.tables.specs.Refusals.{all, refuse, accept, number_of, verdict, none}
use Rattle.tables.proofs.Exactly.{none-held}
use Rattle.tables.proofs.Numbers.{number_refused, number-accepted}
use Rattle.contexts.specs.Words.{state_words}
use Rattle.refusal19.specs.Refusal19.{named_by_19}
use Rattle.lent_state.specs.Lent.{state_refusal}
use Rattle.reading.specs.Desk.{Desk, state_on}
use Rattle.reading.specs.Table.{is_state_words, wrong_sizes, lent_rows, lent_refusal}
use Rattle.reading.specs.Inside.{ReadyToRead}
use Rattle.reading.proofs.Laws.{sizes_fit}

module _ (d : Desk) where
  -- ---- the test, by what the code asks
  by_state : lent_refusal d ≡ cond (eqb (state_refusal d.words) 0) (cond (wrong_sizes d) 12 0) (state_refusal d.words)
  unfolding lent_refusal lent_rows state_refusal verdict
  by_state = go (is_state_words d) (named_by_19 (state_on d)) (wrong_sizes d)
    where
      state : Bool → Bool → ℕ
      state a b = number_of (cond (a && b) (refuse 19 all) (cond (not a) (refuse 12 all) accept))

      go : (a b w : Bool) → number_of (cond (a && b) (refuse 19 all) (cond (not a || w) (refuse 12 all) accept)) ≡ cond (eqb (state a b) 0) (cond w 12 0) (state a b)
      go true true w = refl
      go true false true = refl
      go true false false = refl
      go false b w = refl

  pub state_lent : (number : ℕ) → number ≡ state_refusal d.words → (number ≡ 0 → ⊥) → number ≡ lent_refusal d
  state_lent number e n = sym (by_state ∙ rw (← e, ne_eqb number 0 n))

  pub sizes-lent : (number : ℕ) (w : Bool) → number ≡ state_refusal d.words → number ≡ 0 → wrong_sizes d ≡ w → cond w 12 0 ≡ lent_refusal d
  sizes-lent number w e z s = sym (by_state ∙ rw (← e, z, s))

  -- ---- and back: the rows' verdict by the number, and what is known where that is 0
  pub lent_refused : (number : ℕ) → number ≡ lent_refusal d → (number ≡ 0 → ⊥) → verdict (lent_rows d) ≡ refuse number all
  unfolding lent_refusal lent_rows
  lent_refused number = number_refused all (lent_rows d) number (refl, (refl, tt))

  pub lent-passed : lent_refusal d ≡ 0 → verdict (lent_rows d) ≡ accept
  unfolding lent_refusal lent_rows
  lent-passed = number-accepted (lent_rows d) (λ e. omega arith, (λ e. omega arith, tt))

  pub lent-ready : lent_refusal d ≡ 0 → ReadyToRead d
  unfolding lent_rows none
  lent-ready z =
      let rows : none (lent_rows d) = none-held (lent_rows d) (lent-passed z) in
      let memories = neither (not (is_state_words d)) (wrong_sizes d) rows.1.0 in
      let state : is_state_words d ≡ true = not-false (is_state_words d) memories.0 in
      let sizes = sizes_fit d memories.1 in
      record {
        fit = record {
          whole = eqb-true (length d.words) state_words state;
          good = not-second (is_state_words d) (named_by_19 (state_on d)) state rows.0;
          rooms = sizes.0;
          boxes = sizes.1;
        };
        reply = sizes.2;
      }

-- A verdict by its number: where no row has number 0, that tells a refusal from none.
use Prim.Native.Nat.{ℕ}
use mathlib.Core.Path.{◌≡◌, refl, ap, ap₂, sym, ◌∙◌}
use mathlib.Core.List.{List, [], ◌∷◌}
use mathlib.Core.Bool.{Bool, true, false, cond}
use native.Mathlib.Omega.{arith}
use Rattle.lists.specs.Each.{Each}
use Rattle.tables.specs.Refusals.{RowOf, VerdictOf, refuse, accept, number_of, verdict}
use Rattle.tables.proofs.Exactly.{every_row}

module _ {L : Type 0} where
  -- what every row's number has, a refusal's has
  pub every_number : (P : ℕ → Type 0) (table : List (RowOf L)) (number : ℕ) (leaves : L) → Each (λ (r : RowOf L). P r.number) table → verdict table ≡ refuse number leaves → P number
  unfolding verdict
  every_number P [] number leaves rows e = absurd (let z : ◌≡◌ {A = ℕ} 0 1 = cc in omega arith)
  every_number P (r ∷ table) number leaves rows e = go r.holds e (every_number P table number leaves rows.1)
    where
      go : (b : Bool) → cond b (refuse r.number r.leaves) (verdict table) ≡ refuse number leaves → (verdict table ≡ refuse number leaves → P number) → P number
      go true e ih = let same : r.number ≡ number = cc in rw (← same) rows.0
      go false e ih = ih e

  -- where every row leaves the same
  pub number_refused : (leaves : L) (table : List (RowOf L)) (number : ℕ) → Each (λ (r : RowOf L). r.leaves ≡ leaves) table
      → number ≡ number_of (verdict table) → (number ≡ 0 → ⊥) → verdict table ≡ refuse number leaves
  number_refused leaves table number same e n = go (verdict table) refl
    where
      go : (v : VerdictOf L) → verdict table ≡ v → verdict table ≡ refuse number leaves
      go (refuse m l) q = q ∙ ap₂ refuse (sym (e ∙ ap number_of q)) (every_row (λ (k : L). k ≡ leaves) table m l same q)
      go accept q = absurd (n (e ∙ ap number_of q))

  pub number-accepted : (table : List (RowOf L)) → Each (λ (r : RowOf L). r.number ≡ 0 → ⊥) table → number_of (verdict table) ≡ 0 → verdict table ≡ accept
  unfolding verdict
  number-accepted [] some z = refl
  number-accepted (r ∷ table) some z = go r.holds z (number-accepted table some.1)
    where
      go : (b : Bool) → number_of (cond b (refuse r.number r.leaves) (verdict table)) ≡ 0 → (number_of (verdict table) ≡ 0 → verdict table ≡ accept)
          → cond b (refuse r.number r.leaves) (verdict table) ≡ accept
      go true z later = absurd (some.0 z)
      go false z later = later z

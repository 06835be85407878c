-- What a call comes to by a table, row by row.
use Prim.Native.Nat.{ℕ}
use mathlib.Core.Path.{◌≡◌, refl}
use mathlib.Core.List.{List, [], ◌∷◌}
use mathlib.Core.Bool.{Bool, true, false, cond}
use Rattle.lists.specs.Each.{Each}
use Rattle.tables.specs.Refusals.{RowOf, row, VerdictOf, refuse, accept, verdict, by_verdict, none}
use Rattle.tables.proofs.Exactly.{every_row, none-held}

module _ {L O : Type 0} (refusing : ℕ → L → O) (accepting : O) where
  -- what the first row leaves, or what the others do
  pub by_row : (number : ℕ) (holds : Bool) (leaves : L) (rows : List (RowOf L))
      → by_verdict refusing accepting (verdict (row number holds leaves ∷ rows)) ≡ cond holds (refusing number leaves) (by_verdict refusing accepting (verdict rows))
  unfolding verdict
  by_row number true leaves rows = refl
  by_row number false leaves rows = refl

  -- no row left: accepted
  pub by_end : by_verdict refusing accepting (verdict []) ≡ accepting
  unfolding verdict
  by_end = refl

  -- what holds of whatever a row leaves, and of what is done where no row's test holds, holds of the call
  pub whichever : (P : O → Type 0) (rows : List (RowOf L)) → Each (λ (r : RowOf L). (number : ℕ) → P (refusing number r.leaves)) rows → (none rows → P accepting)
      → P (by_verdict refusing accepting (verdict rows))
  whichever P rows each accepts = go (verdict rows) refl
    where
      go : (v : VerdictOf L) → verdict rows ≡ v → P (by_verdict refusing accepting v)
      go (refuse number leaves) e = every_row (λ (l : L). (n : ℕ) → P (refusing n l)) rows number leaves each e number
      go accept e = accepts (none-held rows e)

-- a part of a table with its own outcomes, carried over into those of the whole: row by row, and where it accepts
module _ {L P O : Type 0} (carry : P → O) (refusing-part : ℕ → L → P) (accepting-part : P) (refusing : ℕ → L → O) (accepting : O) where
  abbrev Carries : L → Type 0
  Carries leaves = (number : ℕ) → carry (refusing-part number leaves) ≡ refusing number leaves

  pub carried : (rows : List (RowOf L)) → Each (λ (r : RowOf L). Carries r.leaves) rows → carry accepting-part ≡ accepting
      → carry (by_verdict refusing-part accepting-part (verdict rows)) ≡ by_verdict refusing accepting (verdict rows)
  carried rows each accepts = go (verdict rows) refl
    where
      go : (v : VerdictOf L) → verdict rows ≡ v → carry (by_verdict refusing-part accepting-part v) ≡ by_verdict refusing accepting v
      go (refuse number leaves) e = every_row Carries rows number leaves each e number
      go accept e = accepts

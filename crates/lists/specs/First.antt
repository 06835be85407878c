-- The first element of a list that passes a test.
use Rattle.std.specs.Prelude.{◌≡◌, Option, IfSome, unwrap_or, ◌<◌, ℕ, zero, suc, List, [], ◌∷◌, Bool, false, cond, ◌||◌}

-- its number, counted from 0; the list's length where none passes
unfoldable pub first_of : {A : Type 0} → (A → Bool) → List A → ℕ
first_of passes [] = zero
first_of passes (x ∷ xs) = cond (passes x) zero (suc (first_of passes xs))

-- whether one passes
unfoldable pub any : {A : Type 0} → (A → Bool) → List A → Bool
any passes [] = false
any passes (x ∷ xs) = passes x || any passes xs

-- a walk over `count` elements found number `at`; `count` where none passed
abbrev pub IsFound : (count at : ℕ) → Option ℕ → Type 0
IsFound count at found = (unwrap_or found count ≡ at) × IfSome found (λ n. n < count)

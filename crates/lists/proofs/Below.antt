-- Numbers below a bound, shown of a given list by computing.
use Prim.Native.Nat.{ℕ, suc, ◌<◌}
use mathlib.Core.Path.{◌≡◌}
use mathlib.Core.List.{List, [], ◌∷◌}
use mathlib.Core.Bool.{Bool, true, ◌&&◌}
use native.Mathlib.Omega.{arith}
use lib.ListN.{get_or}
use lib.Dec.{ltb}
use borrow.Author.Tests.{ltb-true}
use Rattle.lists.specs.Bytes.{AreBytes}
use Rattle.lists.proofs.Tests.{both}

-- whether every number of a list is below a bound
unfoldable pub below : ℕ → List ℕ → Bool
below bound [] = true
below bound (x ∷ xs) = ltb x bound && below bound xs

pub below_at : (bound : ℕ) (l : List ℕ) (i : ℕ) → 0 < bound → below bound l ≡ true → get_or l i 0 < bound
unfolding below
below_at bound [] i pos e = pos
below_at bound (x ∷ xs) ℕ.zero pos e = ltb-true x bound (both (ltb x bound) (below bound xs) e).0
below_at bound (x ∷ xs) (suc i) pos e = below_at bound xs i pos (both (ltb x bound) (below bound xs) e).1

pub are_bytes : (l : List ℕ) → below 256 l ≡ true → AreBytes l
are_bytes l e i = below_at 256 l i (omega arith) e

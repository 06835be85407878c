-- Laws of decimal numbers.
use Prim.Native.Nat.{ℕ, zero, suc, ◌/◌, ◌%◌, ◌^◌, ◌≤◌, ◌<◌}
use mathlib.Core.Path.{◌≡◌, refl, ap}
use mathlib.Core.List.{List, [], ◌∷◌, ◌++◌}
use mathlib.Core.Bool.{Bool, true, false, cond}
use native.Mathlib.Omega.{arith}
use native.Mathlib.Nat.{div-add-mod', mod-lt, pow-suc, div-lt_iff_lt-mul}
use lib.ListN.{length, length-append}
use lib.Dec.{ltb}
use borrow.Author.Tests.{lt-ltb, le-ltb, ltb-true, ltb-false}
use Rattle.log_lines.specs.Decimal.{digit, decimal_in, decimal}

-- the quotient is less
pub less : (n : ℕ) → 10 ≤ n → n / 10 < n
less n h =
    let r : n % 10 < 10 = mod-lt n (omega arith) in
    omega (arith, div-add-mod' n 10)

-- any number of digits that is enough
enough : (k j n : ℕ) → n < k → n < j → decimal_in k n ≡ decimal_in j n
unfolding decimal_in
enough zero j n h g = absurd (omega arith)
enough (suc k) zero n h g = absurd (omega arith)
enough (suc k) (suc j) n h g = go (ltb n 10) refl (enough k j (n / 10))
  where
    go : (b : Bool) → ltb n 10 ≡ b → (n / 10 < k → n / 10 < j → decimal_in k (n / 10) ≡ decimal_in j (n / 10))
        → cond b (digit n ∷ []) (decimal_in k (n / 10) ++ (digit (n % 10) ∷ [])) ≡ cond b (digit n ∷ []) (decimal_in j (n / 10) ++ (digit (n % 10) ∷ []))
    go true t ih = refl
    go false t ih =
        let l : n / 10 < n = less n (ltb-false n 10 t) in
        ap (λ (d : List ℕ). d ++ (digit (n % 10) ∷ [])) (ih (omega arith) (omega arith))

pub one-digit : (n : ℕ) → n < 10 → decimal n ≡ digit n ∷ []
unfolding decimal decimal_in
one-digit n h = rw (lt-ltb n 10 h)

pub more_digits : (n : ℕ) → 10 ≤ n → decimal n ≡ decimal (n / 10) ++ (digit (n % 10) ∷ [])
unfolding decimal decimal_in
more_digits n h =
    rw (le-ltb n 10 h) (ap (λ (d : List ℕ). d ++ (digit (n % 10) ∷ [])) (enough n (suc (n / 10)) (n / 10) (less n h) (omega arith)))

-- a number below a power of ten has no more digits than that
pub few : (k n : ℕ) → n < 10 ^ suc k → length (decimal n) ≤ suc k
few zero n h = rw (one-digit n h) (omega arith)
few (suc k) n h = go (ltb n 10) refl (few k (n / 10))
  where
    go : (b : Bool) → ltb n 10 ≡ b → (n / 10 < 10 ^ suc k → length (decimal (n / 10)) ≤ suc k) → length (decimal n) ≤ suc (suc k)
    go true t ih = rw (one-digit n (ltb-true n 10 t)) (omega arith)
    go false t ih =
        let q : n / 10 < 10 ^ suc k = (div-lt_iff_lt-mul {k = 10} (omega arith)).1 (rw (pow-suc 10 (suc k)) at h) in
        let r : length (decimal (n / 10)) ≤ suc k = ih q in
        rw (more_digits n (ltb-false n 10 t)) (simp length-append (omega arith))

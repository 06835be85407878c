-- Laws of the marks: all of them as one number, and room for one more.
use Prim.Native.Nat.{ℕ, suc, ◌≤◌, ◌<◌, ◌+◌, ◌-◌, ◌*◌, ◌/◌, ◌%◌, ◌^◌}
use mathlib.Core.Path.{◌≡◌, ap, sym, ◌∙◌}
use mathlib.Core.Bool.{Bool, false, ◌&&◌, and-true, and-false}
use native.Mathlib.Omega.{arith}
use native.Mathlib.Decide.{ℕ_discrete}
use native.Mathlib.Nat.{one-mul, lt_of_lt_of_le, div-eq_of_lt, mod-eq_of_lt, mod-lt, zero-div, add-mul, mul-le-mul_right, pow-succ', div-lt_iff_lt-mul, div-add-mod'}
use lib.Dec.{eqb}
use borrow.Author.Tests.{eqb-false, eq-eqb, ne_eqb}
use lib.Pow.{pow_mono, pow_pos, pow-add}
use lib.Arith.{mod-mul}
use Rattle.marks.specs.Marks.{marked, all_marked}

-- one digit more: both digits and rest are greatest where the sum is
one_more : (rest p digit : ℕ) → rest < p → digit < 2 → (eqb rest (p - 1) && eqb digit 1) ≡ eqb (digit * p + rest) (2 * p - 1)
one_more rest p ℕ.zero r d = and-false (eqb rest (p - 1)) ∙ sym (ne_eqb (0 * p + rest) (2 * p - 1) (λ e. omega arith))
one_more rest p (suc ℕ.zero) r d = and-true (eqb rest (p - 1)) ∙ go (ℕ_discrete rest (p - 1))
  where
    go : Dec (rest ≡ p - 1) → eqb rest (p - 1) ≡ eqb (1 * p + rest) (2 * p - 1)
    go (yes e) = eq-eqb rest (p - 1) e ∙ sym (eq-eqb (1 * p + rest) (2 * p - 1) (omega arith))
    go (no e) = ne_eqb rest (p - 1) e ∙ sym (ne_eqb (1 * p + rest) (2 * p - 1) (λ q. e (omega arith)))
one_more rest p (suc (suc digit)) r d = absurd (omega arith)

-- segments 0 to count-1 are all marked where the number of their marks is the greatest
pub all_greatest : (marks count : ℕ) → all_marked marks count ≡ eqb (marks % 2 ^ count) (2 ^ count - 1)
unfolding all_marked marked
all_greatest marks ℕ.zero = sym (eq-eqb (marks % 1) 0 (omega arith))
all_greatest marks (suc n) =
    let p : ℕ = 2 ^ n in
    let rest : marks % p < p = mod-lt marks (pow_pos n) in
    let whole : marks % 2 ^ suc n ≡ marks / p % 2 * p + marks % p = ap (λ (k : ℕ). marks % k) (pow-succ' 2 n) ∙ mod-mul marks (omega arith) (pow_pos n) in
    ap (λ (b : Bool). b && eqb (marks / p % 2) 1) (all_greatest marks n)
    ∙ one_more (marks % p) p (marks / p % 2) rest (omega arith)
    ∙ sym (ap (λ (k : ℕ). eqb (marks % 2 ^ suc n) (k - 1)) (pow-succ' 2 n) ∙ ap (λ (k : ℕ). eqb k (2 * p - 1)) whole)

-- where no mark stands past them, that number is the marks themselves
pub all-below : (marks count : ℕ) → marks < 2 ^ count → all_marked marks count ≡ eqb marks (2 ^ count - 1)
all-below marks count h = all_greatest marks count ∙ ap (λ (k : ℕ). eqb k (2 ^ count - 1)) (mod-eq_of_lt h)

-- the weight of a mark, as the machine shifts it
pub power_fits : (k : ℕ) → k ≤ 16 → (1 * 2 ^ k % 18446744073709551616 ≡ 2 ^ k) × (1 * 2 ^ k % 18446744073709551616 ≤ 65536)
power_fits k h =
    let small : 2 ^ k ≤ 65536 = pow_mono h in
    let same : 1 * 2 ^ k % 18446744073709551616 ≡ 2 ^ k = ap (λ (n : ℕ). n % 18446744073709551616) (one-mul (2 ^ k)) ∙ mod-eq_of_lt (omega arith) in
    (same, rw same small)

-- a mark that is not set leaves room for it: with it the marks are still those of segments below w
pub room_for_mark : (marks k w : ℕ) → marks < 2 ^ w → k < w → marked marks k ≡ false → marks + 2 ^ k < 2 ^ w
unfolding marked
room_for_mark marks k w h below e =
    let d : ℕ = w - suc k in
    let q : ℕ = marks / 2 ^ k in
    let even : q % 2 ≡ 1 → ⊥ = eqb-false (q % 2) 1 e in
    let whole : 2 ^ w ≡ 2 * 2 ^ d * 2 ^ k = split_power w k below in
    let upper : q < 2 * 2 ^ d = (div-lt_iff_lt-mul (pow_pos k)).1 (rw (← whole) h) in
    let two : q + 2 ≤ 2 * 2 ^ d = omega (arith, upper, even) in
    let scaled : (q + 2) * 2 ^ k ≤ 2 * 2 ^ d * 2 ^ k = mul-le-mul_right (2 ^ k) two in
    let parts : (q + 2) * 2 ^ k ≡ q * 2 ^ k + 2 * 2 ^ k = add-mul q 2 (2 ^ k) in
    let same : q * 2 ^ k + marks % 2 ^ k ≡ marks = div-add-mod' marks (2 ^ k) in
    let rest : marks % 2 ^ k < 2 ^ k = mod-lt marks (pow_pos k) in
    rw whole (omega (arith, scaled, parts, same, rest))
  where
    split_power : (w k : ℕ) → k < w → 2 ^ w ≡ 2 * 2 ^ (w - suc k) * 2 ^ k
    split_power w k h =
        let n : w ≡ suc (w - suc k) + k = omega arith in
        ap (λ (j : ℕ). 2 ^ j) n ∙ (pow-add 2 (suc (w - suc k)) k ∙ ap (λ (j : ℕ). j * 2 ^ k) (pow-succ' 2 (w - suc k)))

-- nor is any segment from w on marked
pub none-past : (marks w k : ℕ) → marks < 2 ^ w → w ≤ k → marked marks k ≡ false
unfolding marked
none-past marks w k h past =
    let more : 2 ^ w ≤ 2 ^ k = pow_mono past in
    let none : marks / 2 ^ k ≡ 0 = div-eq_of_lt (lt_of_lt_of_le h more) in
    ne_eqb (marks / 2 ^ k % 2) 1 (λ e. omega (arith, none, e))

-- without marks nothing is marked
pub nothing-marked : (k : ℕ) → marked 0 k ≡ false
unfolding marked
nothing-marked k = rw (zero-div (2 ^ k))

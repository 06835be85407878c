-- One more mark: it is set, and no other mark changes.
use Prim.Native.Nat.{ℕ, suc, ◌<◌, ◌+◌, ◌-◌, ◌*◌, ◌/◌, ◌%◌, ◌^◌}
use mathlib.Core.Path.{◌≡◌, ap, ap₂, sym, ◌∙◌}
use mathlib.Core.Bool.{true, false}
use native.Mathlib.Omega.{arith}
use native.Mathlib.Decide.{dec_lt}
use native.Mathlib.Nat.{add-div_right, add-mul-div_right, div-add-mod', div-div-eq-div-mul, mod-lt, pow-suc, pow-succ'}
use lib.Dec.{eqb}
use lib.Pow.{pow_pos, pow-add}
use lib.Bits.{bit_and, bit_or, and_block, and_mask, and_zero_r, or_disjoint}
use borrow.Author.Tests.{eqb-false, eq-eqb}
use Rattle.marks.specs.Marks.{marked}

module _ (marks k : ℕ) where
  -- the digit at k, and those above it, with the mark
  next_digit : (marks + 2 ^ k) / 2 ^ k ≡ marks / 2 ^ k + 1
  next_digit = add-div_right marks (pow_pos k)

  module _ (unset : marked marks k ≡ false) where
    even : marks / 2 ^ k % 2 ≡ 0
    unfolding marked
    even = let odd = eqb-false (marks / 2 ^ k % 2) 1 unset in omega arith

    -- set by `or`: the two have no digit in common
    pub mark_or : bit_or marks (2 ^ k) ≡ marks + 2 ^ k
    mark_or =
        let rest : marks % 2 ^ k < 2 ^ k = mod-lt marks (pow_pos k) in
        let apart : bit_and (marks / 2 ^ k * 2 ^ k + marks % 2 ^ k) (1 * 2 ^ k + 0) ≡ bit_and (marks / 2 ^ k) 1 * 2 ^ k + bit_and (marks % 2 ^ k) 0 =
        and_block k (marks / 2 ^ k) 1 (marks % 2 ^ k) 0 rest (pow_pos k) in
        let high : bit_and (marks / 2 ^ k) 1 ≡ 0 = and_mask (marks / 2 ^ k) 1 ∙ even in
        let whole : marks / 2 ^ k * 2 ^ k + marks % 2 ^ k ≡ marks = div-add-mod' marks (2 ^ k) in
        let weight : 1 * 2 ^ k + 0 ≡ 2 ^ k = omega arith in
        let none : bit_and marks (2 ^ k) ≡ 0 * 2 ^ k + 0 =
        sym (ap₂ bit_and whole weight) ∙ apart ∙ ap₂ (λ (i j : ℕ). i * 2 ^ k + j) high (and_zero_r (marks % 2 ^ k)) in
        or_disjoint marks (2 ^ k) (omega (arith, none))

    pub mark_set : marked (marks + 2 ^ k) k ≡ true
    unfolding marked
    mark_set = eq-eqb ((marks + 2 ^ k) / 2 ^ k % 2) 1 (rw next_digit (omega (arith, even)))

    -- below k the mark adds an even number
    below : (j : ℕ) → j < k → (marks + 2 ^ k) / 2 ^ j % 2 ≡ marks / 2 ^ j % 2
    below j h =
        let d : ℕ = k - suc j in
        let e : k ≡ suc d + j = omega arith in
        let whole : 2 ^ k ≡ 2 * 2 ^ d * 2 ^ j = ap (λ (i : ℕ). 2 ^ i) e ∙ (pow-add 2 (suc d) j ∙ ap (λ (i : ℕ). i * 2 ^ j) (pow-succ' 2 d)) in
        let quotient : (marks + 2 ^ k) / 2 ^ j ≡ marks / 2 ^ j + 2 * 2 ^ d =
        ap (λ (i : ℕ). (marks + i) / 2 ^ j) whole ∙ add-mul-div_right marks (2 * 2 ^ d) (pow_pos j) in
        rw quotient (omega arith)

    -- above k nothing is carried
    above : (j : ℕ) → k < j → (marks + 2 ^ k) / 2 ^ j ≡ marks / 2 ^ j
    above j h =
        let d : ℕ = j - suc k in
        let e : j ≡ suc k + d = omega arith in
        let whole : 2 ^ j ≡ 2 ^ k * 2 * 2 ^ d = ap (λ (i : ℕ). 2 ^ i) e ∙ (pow-add 2 (suc k) d ∙ ap (λ (i : ℕ). i * 2 ^ d) (pow-suc 2 k)) in
        let half : (marks + 2 ^ k) / 2 ^ k / 2 ≡ marks / 2 ^ k / 2 = rw next_digit (omega (arith, even)) in
        split (marks + 2 ^ k) d whole ∙ (ap (λ (i : ℕ). i / 2 ^ d) half ∙ sym (split marks d whole))
      where
        split : {top : ℕ} (n d : ℕ) → top ≡ 2 ^ k * 2 * 2 ^ d → n / top ≡ n / 2 ^ k / 2 / 2 ^ d
        split n d e = ap (λ (i : ℕ). n / i) e ∙ sym (ap (λ (i : ℕ). i / 2 ^ d) (div-div-eq-div-mul n (2 ^ k) 2) ∙ div-div-eq-div-mul n (2 ^ k * 2) (2 ^ d))

    pub mark_other : (j : ℕ) → (j ≡ k → ⊥) → marked (marks + 2 ^ k) j ≡ marked marks j
    unfolding marked
    mark_other j apart = go (dec_lt j k)
      where
        go : Dec (j < k) → eqb ((marks + 2 ^ k) / 2 ^ j % 2) 1 ≡ eqb (marks / 2 ^ j % 2) 1
        go (yes h) = ap (λ (i : ℕ). eqb i 1) (below j h)
        go (no h) = ap (λ (i : ℕ). eqb (i % 2) 1) (above j (omega arith))

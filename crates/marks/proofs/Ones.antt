-- The count of ones: marks of segments 0 to msglen alone are all there exactly if msglen+1 of them are ones.
use Prim.Native.Nat.{ℕ, suc, ◌≤◌, ◌<◌, ◌+◌, ◌-◌, ◌*◌, ◌/◌, ◌%◌, ◌^◌}
use mathlib.Core.Path.{◌≡◌, refl, ap, sym, subst, ◌∙◌}
use mathlib.Core.Bool.{false}
use native.Mathlib.Omega.{arith}
use native.Mathlib.Decide.{ℕ_discrete}
use native.Mathlib.Nat.{mod-lt, pow-succ', div-lt_iff_lt-mul, div-add-mod'}
use lib.Dec.{eqb}
use lib.Pow.{pow_pos}
use lib.Count.{ones, ones_cat, ones-ones, ones-le}
use borrow.Author.Tests.{eq-eqb, ne_eqb}
use Rattle.marks.specs.Marks.{all_marked, counted_complete}
use Rattle.marks.proofs.Marks.{all-below}

-- a digit counts itself
digit : (d : ℕ) → d < 2 → ones d ≡ d
unfolding ones
digit ℕ.zero h = refl
digit (suc ℕ.zero) h = refl
digit (suc (suc d)) h = absurd (omega arith)

-- a number of n digits that are all ones is the greatest: its first digit is one, and so are all behind it
greatest : (n marks : ℕ) → marks < 2 ^ n → ones marks ≡ n → marks ≡ 2 ^ n - 1
greatest ℕ.zero marks h e = omega arith
greatest (suc n) marks h e =
    let p : ℕ = 2 ^ n in
    let first : ℕ = marks / p in
    let rest : ℕ = marks % p in
    let two : 2 ^ suc n ≡ 2 * p = pow-succ' 2 n in
    let small : first < 2 = (div-lt_iff_lt-mul (pow_pos n)).1 (rw (← two) h) in
    let below : rest < p = mod-lt marks (pow_pos n) in
    let same : first * p + rest ≡ marks = div-add-mod' marks p in
    let counted : ones marks ≡ first + ones rest = ap ones (sym same) ∙ ones_cat n first rest below ∙ ap (λ (k : ℕ). k + ones rest) (digit first small) in
    let most : ones rest ≤ n = ones-le n rest below in
    let one : first ≡ 1 = omega (arith, counted, e, most, small) in
    let all : rest ≡ p - 1 = greatest n rest below (omega (arith, counted, e, one)) in
    let whole : 1 * p + rest ≡ marks = subst (λ (d : ℕ). d * p + rest ≡ marks) one same in
    rw two (omega (arith, whole, all, pow_pos n))

-- all marked, by the count
pub counted : (marks msglen : ℕ) → marks < 2 ^ (msglen + 1) → all_marked marks (msglen + 1) ≡ counted_complete marks msglen
unfolding counted_complete
counted marks msglen h = all-below marks n h ∙ go (ℕ_discrete (ones marks) n)
  where
    n : ℕ
    n = msglen + 1

    go : Dec (ones marks ≡ n) → eqb marks (2 ^ n - 1) ≡ eqb (ones marks) n
    go (yes e) = eq-eqb marks (2 ^ n - 1) (greatest n marks h e) ∙ sym (eq-eqb (ones marks) n e)
    go (no e) = ne_eqb marks (2 ^ n - 1) (λ q. e (ap ones q ∙ ones-ones n)) ∙ sym (ne_eqb (ones marks) n e)

-- sixteen marks have at most sixteen ones
pub count-le : (marks msglen : ℕ) → msglen < 16 → marks < 2 ^ (msglen + 1) → ones marks ≤ 16
count-le marks msglen h inside =
    let most : ones marks ≤ msglen + 1 = ones-le (msglen + 1) marks inside in
    omega arith

-- one mark is one
one-counted : (k : ℕ) → ones (0 + 2 ^ k) ≡ 1
one-counted k = ap ones one ∙ ones_cat k 1 0 (pow_pos k) ∙ digit_sum
  where
    one : 0 + 2 ^ k ≡ 1 * 2 ^ k + 0
    one = omega arith

    digit_sum : ones 1 + ones 0 ≡ 1
    digit_sum = rw (digit 1 (omega arith), digit 0 (omega arith))

-- which is not all of several
pub one_of-several : (k msglen : ℕ) → (msglen ≡ 0 → ⊥) → counted_complete (0 + 2 ^ k) msglen ≡ false
unfolding counted_complete
one_of-several k msglen several = rw (one-counted k) (ne_eqb 1 (msglen + 1) (λ e. several (omega arith)))

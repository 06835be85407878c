-- The print recursion: the quotient's digits, and then the last.
use Prim.Native.Nat.{ℕ, ◌+◌, ◌/◌, ◌%◌, ◌≤◌, ◌<◌}
use mathlib.Core.Path.{◌≡◌, ap, sym, subst, ◌∙◌}
use mathlib.Core.List.{List, [], ◌∷◌}
use native.Mathlib.Omega.{arith}
use lib.ListN.{length, length-append}
use Rattle.log_lines.specs.Decimal.{digit, decimal}
use Rattle.log_lines.specs.Lines.{spaced}
use Rattle.log_lines.specs.declared.Line.{Line}
use Rattle.log_lines.specs.Puts.{Puts}
use Rattle.log_lines.proofs.Decimal.{one-digit, more_digits, few}
use Rattle.log_lines.specs.Text.{text}
use Rattle.log_lines.proofs.Puts.{both, none}
use mathlib.Core.Bool.{Bool, false, cond}

-- a number has a digit
pub some : (n : ℕ) → n < 10 → length (decimal n) ≡ 1
some n h = ap length (one-digit n h)

-- and one more than its quotient
pub one_more : (n : ℕ) → 10 ≤ n → length (decimal n) ≡ length (decimal (n / 10)) + 1
one_more n h = ap length (more_digits n h) ∙ length-append (decimal (n / 10)) (digit (n % 10) ∷ [])

pub only_digit : {before after : Line} (n : ℕ) → n < 10 → Puts before (digit n ∷ []) after → Puts before (decimal n) after
only_digit {before} {after} n h p = subst (λ (l : List ℕ). Puts before l after) (sym (one-digit n h)) p

pub last_digit : {before mid after : Line} (n : ℕ) → 10 ≤ n → before.at + length (decimal n) ≤ length before.out.now
    → Puts before (decimal (n / 10)) mid → Puts mid (digit (n % 10) ∷ []) after → Puts before (decimal n) after
last_digit {before} {after = after} n h fits p q =
    subst (λ (l : List ℕ). Puts before l after) (sym (more_digits n h)) (both (omega (arith, one_more n h)) p q)

-- twenty digits hold a word
pub few_digits : (n : ℕ) → n < 18446744073709551616 → length (decimal n) ≤ 20
few_digits n h = few 19 n (omega arith)

-- no ` dropped`
pub not_dropped : {line : Line} {dropped : Bool} → dropped ≡ false → Puts line (cond dropped (text " dropped") []) line × (line.at ≤ line.at + 8)
not_dropped {line} t = (subst (λ (b : Bool). Puts line (cond b (text " dropped") []) line) (sym t) (none line), omega arith)

-- a space and a number
pub spaced_is : {before mid after : Line} (n : ℕ) → before.at + 21 ≤ length before.out.now → n < 18446744073709551616
    → Puts before (text " ") mid → Puts mid (decimal n) after → Puts before (spaced n) after × (after.at ≤ before.at + 21)
unfolding spaced
spaced_is {before} {mid} n fits h p q =
    let d : length (decimal n) ≤ 20 = few_digits n h in
    let e : mid.at ≡ before.at + 1 = p.behind in
    (both (omega arith) p q, omega (arith, q.behind))

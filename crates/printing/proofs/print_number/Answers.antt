-- `printing::print_number` counts the digits by the logarithm, of 0 as of 1.
use Rattle.std.proofs.Common.{ℕ, zero, suc, ◌+◌, ◌-◌, ◌*◌, ◌^◌, ◌<◌, ◌≤◌, ◌≡◌, max, arith}
use Rattle.std.proofs.Math.Nat.{pow-suc, one-le-pow}
use native.Mathlib.Numerals.{add-one}
use Rattle.printing.specs.Digits.{IsDigitCount}
use Rattle.printing.proofs.print_number.Goals as goal

-- a number of two digits or more is not 0
no_less : (n k : ℕ) → 10 ^ k ≤ max n 1 → 1 < suc k → 10 ^ k ≤ n
no_less n zero h two = absurd (omega arith)
no_less n (suc j) h two = omega (arith, pow-suc 10 j, one-le-pow j 10 (omega arith))

digits : (n k : ℕ) → 10 ^ k ≤ max n 1 → max n 1 < 10 * 10 ^ k → IsDigitCount n (k + 1)
digits n k low high =
    let less : suc k - 1 ≡ k = omega arith in
    rw add-one (omega arith, omega (arith, pow-suc 10 k), λ two. rw less (no_less n k low two))

pub returns : goal.returns
returns g c = let m = c.max.ensures in digits _ _ (rw m at c.ilog10.ensures.power_le) (rw m at c.ilog10.ensures.next_power_gt)

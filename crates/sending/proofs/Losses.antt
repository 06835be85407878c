-- Counting losses.
use Prim.Native.Nat.{ℕ, zero, suc, ◌+◌, ◌≤◌, ◌<◌}
use mathlib.Core.Path.{◌≡◌, refl, ap, ◌∙◌}
use mathlib.Core.List.{List, []}
use mathlib.Core.Bool.{Bool, true, false, cond}
use native.Mathlib.Omega.{arith}
use native.Mathlib.Decide.{ℕ_discrete}
use Rattle.sending.specs.Sending.{has, losses_from}

-- where nothing is lost, nothing counts
pub no_losses : (k n : ℕ) → losses_from [] k n ≡ 0
no_losses k zero = refl
no_losses k (suc n) = let h = no_losses (suc k) n in omega arith

module _ (lost : List ℕ) where
  -- the count, where packet k is lost and where it is not
  pub count_lost : (k n c : ℕ) → has k lost ≡ true → losses_from lost k (suc n) ≡ suc c → losses_from lost (suc k) n ≡ c
  count_lost k n c e l = let q = rw e at l in omega arith

  pub count_seen : (k n c : ℕ) → has k lost ≡ false → losses_from lost k (suc n) ≡ c → losses_from lost (suc k) n ≡ c
  count_seen k n c e l = let q = rw e at l in omega arith

  -- of packet k and n behind it none is lost
  pub none_lost : (k n : ℕ) → losses_from lost k (suc n) ≡ 0 → (has k lost ≡ false) × (losses_from lost (suc k) n ≡ 0)
  none_lost k n e = go (has k lost) e
    where
      go : (b : Bool) → cond b 1 0 + losses_from lost (suc k) n ≡ 0 → (b ≡ false) × (losses_from lost (suc k) n ≡ 0)
      go true e = absurd (omega arith)
      go false e = (refl, omega arith)

  -- a lost packet counts
  pub lost_counts : (n k i : ℕ) → has i lost ≡ true → k ≤ i → i < k + n → 0 < losses_from lost k n
  lost_counts zero k i e le lt = absurd (omega arith)
  lost_counts (suc n) k i e le lt = go (ℕ_discrete k i) (lost_counts n (suc k) i e)
    where
      go : Dec (k ≡ i) → (suc k ≤ i → i < suc k + n → 0 < losses_from lost (suc k) n) → 0 < losses_from lost k (suc n)
      go (yes q) rest = let here : has k lost ≡ true = ap (λ (x : ℕ). has x lost) q ∙ e in rw here (omega arith)
      go (no q) rest = let r = rest (omega arith) (omega arith) in omega arith

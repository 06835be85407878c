-- Laws of rows 6 and 7 by numbers: O and E as bits of the flags.
use Prim.Native.Nat.{ℕ, ◌<◌, ◌≤◌, ◌*◌, ◌/◌, ◌%◌}
use mathlib.Core.Path.{◌≡◌, refl, sym, ap, ◌∙◌}
use mathlib.Core.Bool.{Bool, true, false, cond, not}
use native.Mathlib.Omega.{arith}
use native.Mathlib.Decide.{ℕ_discrete}
use lib.Dec.{eqb, ltb}
use borrow.Author.Tests.{eq-eqb, ne_eqb, lt-ltb, le-ltb}
use Rattle.wire.specs.Packet.{bit}
use Rattle.rules.specs.Segments.{wrong_o, wrong_form, wrong_size}

-- of two bits one is set exactly where they differ
bits_differ : (a b : ℕ) → a < 2 → b < 2 → not (eqb a b) ≡ cond (eqb a 1) (not (eqb b 1)) (eqb b 1)
bits_differ a b x y = go (ℕ_discrete a 1) (ℕ_discrete b 1)
  where
    go : Dec (a ≡ 1) → Dec (b ≡ 1) → not (eqb a b) ≡ cond (eqb a 1) (not (eqb b 1)) (eqb b 1)
    go (yes i) (yes j) = rw (eq-eqb a b (omega arith), eq-eqb a 1 i, eq-eqb b 1 j)
    go (yes i) (no j) = rw (ne_eqb a b (λ e. omega arith), eq-eqb a 1 i, ne_eqb b 1 j)
    go (no i) (yes j) = rw (ne_eqb a b (λ e. omega arith), ne_eqb a 1 i, eq-eqb b 1 j)
    go (no i) (no j) = rw (eq-eqb a b (omega arith), ne_eqb a 1 i, ne_eqb b 1 j)

-- ---- row 6
module _ (raw flags : ℕ) where
  pub no_data : raw ≡ 0 → true ≡ wrong_form raw (bit flags 2)
  unfolding wrong_form
  no_data e = rw (eq-eqb raw 0 e)

  module _ (some : raw ≡ 0 → ⊥) where
    -- an even number of bytes, by the parity of its half-words
    by_O : (raw % 2 ≡ 1 → ⊥) → not (eqb (raw / 2 % 2) (flags / 2 % 2)) ≡ wrong_form raw (bit flags 2)
    unfolding wrong_form
    by_O even = rw (ne_eqb raw 0 some, ne_eqb (raw % 2) 1 even) (bits_differ (raw / 2 % 2) (flags / 2 % 2) (omega arith) (omega arith))

    -- both at once: by four, a good number of bytes leaves 2 where O is set, else 0
    pub by_four : not (eqb (raw % 4) (2 * (flags / 2 % 2))) ≡ wrong_form raw (bit flags 2)
    unfolding wrong_form
    by_four = go (ℕ_discrete (raw % 2) 1) (ℕ_discrete (raw / 2 % 2) (flags / 2 % 2))
      where
        go : Dec (raw % 2 ≡ 1) → Dec (raw / 2 % 2 ≡ flags / 2 % 2) → not (eqb (raw % 4) (2 * (flags / 2 % 2))) ≡ wrong_form raw (bit flags 2)
        go (yes uneven) same = rw (ne_eqb raw 0 some, eq-eqb (raw % 2) 1 uneven, ne_eqb (raw % 4) (2 * (flags / 2 % 2)) (λ e. omega arith))
        go (no even) (yes same) =
            ap not (eq-eqb (raw % 4) (2 * (flags / 2 % 2)) (omega arith)) ∙ (sym (ap not (eq-eqb (raw / 2 % 2) (flags / 2 % 2) same)) ∙ by_O even)
        go (no even) (no other) =
            ap not (ne_eqb (raw % 4) (2 * (flags / 2 % 2)) (λ e. other (omega arith))) ∙ (sym (ap not (ne_eqb (raw / 2 % 2) (flags / 2 % 2) other)) ∙ by_O even)

-- ---- row 7
pub over : (e : Bool) (n mtu : ℕ) → mtu < n → true ≡ wrong_size e n mtu
over true n mtu h = sym (lt-ltb mtu n h)
over false n mtu h = rw (ne_eqb n mtu (λ e. omega arith))

pub exact : (e : Bool) (n mtu : ℕ) → n ≡ mtu → false ≡ wrong_size e n mtu
exact true n mtu h = sym (le-ltb mtu n (omega arith))
exact false n mtu h = rw (eq-eqb n mtu h)

pub under : (flags n mtu : ℕ) → n ≤ mtu → (n ≡ mtu → ⊥) → eqb (flags / 64 % 2) 0 ≡ wrong_size (bit flags 64) n mtu
under flags n mtu h other = go (ℕ_discrete (flags / 64 % 2) 1)
  where
    go : Dec (flags / 64 % 2 ≡ 1) → eqb (flags / 64 % 2) 0 ≡ wrong_size (bit flags 64) n mtu
    go (yes e) = rw (eq-eqb (flags / 64 % 2) 1 e, ne_eqb (flags / 64 % 2) 0 (λ z. omega arith), le-ltb mtu n h)
    go (no e) = rw (ne_eqb (flags / 64 % 2) 1 e, eq-eqb (flags / 64 % 2) 0 (omega arith), ne_eqb n mtu other)

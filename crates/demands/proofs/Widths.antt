-- An ID that fits its bytes is one that 47 passes: at 16 bits every ID does.
use Prim.Native.Nat.{ℕ, ◌^◌, ◌≤◌, ◌<◌}
use mathlib.Core.Path.{◌≡◌, sym, subst}
use mathlib.Core.Bool.{false}
use native.Mathlib.Omega.{arith}
use native.Mathlib.Decide.{ℕ_discrete}
use lib.Dec.{ltb}
use borrow.Author.Tests.{eq-eqb, ne_eqb, le-ltb, ltb-false}
use Rattle.wire.specs.Packet.{id_bytes, too_wide}
use Rattle.wire.proofs.Widths.{wide_is, narrow_is}

module _ (narrow id : ℕ) where
  at_16 : narrow ≡ 0 → id < 65536 → id < 256 ^ id_bytes narrow
  at_16 e small = subst (λ (n : ℕ). id < 256 ^ n) (sym (wide_is narrow e)) small

  at_8 : (narrow ≡ 0 → ⊥) → id < 256 ^ id_bytes narrow → id ≤ 255
  at_8 n small = let one_byte : id < 256 = subst (λ (m : ℕ). id < 256 ^ m) (narrow_is narrow n) small in omega arith

  pub fits_width : id < 256 ^ id_bytes narrow → too_wide narrow id ≡ false
  unfolding too_wide
  fits_width small = go (ℕ_discrete narrow 0)
    where
      go : Dec (narrow ≡ 0) → too_wide narrow id ≡ false
      go (yes e) = rw (eq-eqb narrow 0 e)
      go (no n) = rw (ne_eqb narrow 0 n) (le-ltb 255 id (at_8 n small))

  pub fits-bytes : id < 65536 → too_wide narrow id ≡ false → id < 256 ^ id_bytes narrow
  unfolding too_wide
  fits-bytes small t = go (ℕ_discrete narrow 0)
    where
      go : Dec (narrow ≡ 0) → id < 256 ^ id_bytes narrow
      go (yes e) = at_16 e small
      go (no n) =
          let most : ltb 255 id ≡ false = rw (ne_eqb narrow 0 n) at t in
          subst (λ (m : ℕ). id < 256 ^ m) (sym (narrow_is narrow n)) (let one_byte : id < 256 = omega (arith, ltb-false 255 id most) in one_byte)

  pub in_16_bits : id < 256 ^ id_bytes narrow → id < 65536
  in_16_bits small = go (ℕ_discrete narrow 0)
    where
      go : Dec (narrow ≡ 0) → id < 65536
      go (yes e) = subst (λ (n : ℕ). id < 256 ^ n) (wide_is narrow e) small
      go (no n) = omega (arith, at_8 n small)

-- The bytes of an ID, by the number that chooses the width: 2 where it is 0, else 1; so always one of the two.
use Prim.Native.Nat.{ℕ, ◌≤◌}
use mathlib.Core.Path.{◌≡◌}
use native.Mathlib.Decide.{ℕ_discrete}
use native.Mathlib.Omega.{arith}
use borrow.Author.Tests.{eq-eqb, ne_eqb}
use Rattle.wire.specs.Packet.{id_bytes}

module _ (narrow : ℕ) where
  pub wide_is : narrow ≡ 0 → id_bytes narrow ≡ 2
  unfolding id_bytes
  wide_is e = rw (eq-eqb narrow 0 e)

  pub narrow_is : (narrow ≡ 0 → ⊥) → id_bytes narrow ≡ 1
  unfolding id_bytes
  narrow_is n = rw (ne_eqb narrow 0 n)

  pub some_byte : 1 ≤ id_bytes narrow
  some_byte = go (ℕ_discrete narrow 0)
    where
      go : Dec (narrow ≡ 0) → 1 ≤ id_bytes narrow
      go (yes e) = omega (arith, wide_is e)
      go (no n) = omega (arith, narrow_is n)

  pub two_bytes : id_bytes narrow ≤ 2
  two_bytes = go (ℕ_discrete narrow 0)
    where
      go : Dec (narrow ≡ 0) → id_bytes narrow ≤ 2
      go (yes e) = omega (arith, wide_is e)
      go (no n) = omega (arith, narrow_is n)

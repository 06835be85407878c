-- The pad as the code writes it, and the store of it behind the data: one store of both.
use Prim.Native.Nat.{ℕ, zero, suc, ◌≤◌, ◌<◌, ◌+◌, ◌%◌}
use mathlib.Core.Path.{◌≡◌, refl, ◌∙◌}
use mathlib.Core.List.{List, [], ◌∷◌, ◌++◌}
use mathlib.Core.Bool.{cond}
use native.Mathlib.Omega.{arith}
use lib.Dec.{eqb}
use lib.ListN.{length, take}
use lib.Seq.{length-take-le}
use Rattle.lists.specs.Bytes.{written}
use Rattle.lists.proofs.Written.{written_behind}
use Rattle.cutting.specs.Cutting.{pad_of}

-- the pad is the front of a byte 0
abbrev zero_byte : List ℕ
zero_byte = 0 ∷ []

pad_is : (n : ℕ) → pad_of n ≡ take (n % 2) zero_byte
unfolding pad_of
pad_is n = go (n % 2) (omega arith)
  where
    go : (r : ℕ) → r < 2 → cond (eqb r 1) zero_byte [] ≡ take r zero_byte
    go ℕ.zero h = refl
    go (suc ℕ.zero) h = refl
    go (suc (suc r)) h = absurd (omega arith)

pub length_pad : (n : ℕ) → length (pad_of n) ≡ n % 2
length_pad n = rw pad_is (length-take-le (n % 2) zero_byte (omega arith))

-- the code's two stores
pub put_is : (out bytes out₁ out₂ : List ℕ) (at : ℕ) → at + length bytes + length bytes % 2 ≤ length out
    → out₁ ≡ written out at bytes
    → out₂ ≡ written out₁ (at + length bytes) (take (length bytes % 2) zero_byte)
    → out₂ ≡ written out at (bytes ++ pad_of (length bytes))
put_is out bytes out₁ out₂ at room e₁ e₂ = e₂ ∙ rw (e₁, ← pad_is) (written_behind out bytes (pad_of (length bytes)) at (simp length_pad room))

-- Laws of MTUs, of ssize codes and of lengths in eights.
use Prim.Native.Nat.{ℕ, suc, ◌≤◌, ◌<◌, ◌-◌, ◌/◌, ◌%◌}
use mathlib.Core.Path.{◌≡◌, refl, ap}
use mathlib.Core.List.{List, [], ◌∷◌, ◌++◌}
use mathlib.Core.Bool.{true, false, not, ◌||◌}
use native.Mathlib.Omega.{arith}
use lib.Dec.{ltb, leb, eqb}
use native.Mathlib.Decide.{dec_lt, ℕ_discrete}
use lib.ListN.{get_or, replicate, get_or-eq_default}
use borrow.Author.Tests.{ltb-false, leb-true, eq-eqb, ne_eqb}
use Rattle.lists.proofs.Tests.{neither, both}
use Rattle.lists.proofs.Below.{below, below_at}
use Rattle.wire.specs.Packet.{bit}
use Rattle.sizes.specs.Sizes.{bad_mtu, without_pad, ssizes, bytes_of, in_eights}

-- an MTU that 18 does not refuse
pub mtu_fits : (mtu : ℕ) → bad_mtu mtu ≡ false → (32 ≤ mtu) × (mtu ≤ 256)
unfolding bad_mtu
mtu_fits mtu e =
    let a = neither (ltb mtu 32 || ltb 256 mtu) (not (eqb (mtu % 4) 0)) e in
    let b = neither (ltb mtu 32) (ltb 256 mtu) a.0 in
    (ltb-false mtu 32 b.0, ltb-false 256 mtu b.1)

-- the codes before 9 mean nothing
before : (n : ℕ) (l : List ℕ) (i : ℕ) → i < n → get_or (replicate n 0 ++ l) i 0 ≡ 0
before ℕ.zero l i h = absurd (omega arith)
before (suc n) l ℕ.zero h = refl
before (suc n) l (suc i) h = before n l i (omega arith)

-- a code that is none of 9 to 14 means nothing
pub reserved : (code : ℕ) → (9 ≤ code → code ≤ 14 → ⊥) → bytes_of code ≡ 0
unfolding bytes_of
reserved code none = go (dec_lt code 9) (dec_lt code 15) (dec_lt code 16)
  where
    go : Dec (code < 9) → Dec (code < 15) → Dec (code < 16) → get_or ssizes code 0 ≡ 0
    go (yes h) k m = before 9 (8 ∷ 16 ∷ 32 ∷ 64 ∷ 128 ∷ 256 ∷ 0 ∷ []) code h
    go (no h) (yes k) m = absurd (none (omega arith) (omega arith))
    go (no h) (no k) (yes m) = ap (λ (i : ℕ). get_or ssizes i 0) (let e : code ≡ 15 = omega arith in e)
    go (no h) (no k) (no m) = get_or-eq_default ssizes 0 (let e : 16 ≤ code = omega arith in e)

pub bytes_le : (code : ℕ) → bytes_of code ≤ 256
unfolding bytes_of below
bytes_le code = omega (arith, below_at 257 ssizes code (omega arith) refl)

pub eights_le : (n size : ℕ) → in_eights n size ≡ true → n ≤ size
unfolding in_eights
eights_le n size e = leb-true n size (both (leb n size) (eqb (n % 8) 0) (both (leb 8 n) _ e).1).0

-- P is the lowest bit of the flags
pub pad_taken : (raw flags : ℕ) → raw - flags % 2 ≡ without_pad raw (bit flags 1)
pad_taken raw flags = go (ℕ_discrete (flags / 1 % 2) 1)
  where
    go : Dec (flags / 1 % 2 ≡ 1) → raw - flags % 2 ≡ without_pad raw (bit flags 1)
    go (yes e) = rw (eq-eqb (flags / 1 % 2) 1 e) (omega arith)
    go (no e) = rw (ne_eqb (flags / 1 % 2) 1 e) (omega arith)

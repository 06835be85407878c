-- Numbers of a cutting, for every MTU: what the tests on the MTU and the length leave, where a segment's data begin and how many they are.
-- A segment below the count begins before the PDU's end, since the count is the length over the MTU, rounded up.
use Prim.Native.Nat.{ℕ, suc, min, ◌≤◌, ◌<◌, ◌+◌, ◌-◌, ◌*◌}
use mathlib.Core.Path.{◌≡◌, ap, sym, ◌∙◌}
use mathlib.Core.List.{List}
use mathlib.Core.Bool.{false}
use native.Mathlib.Omega.{arith}
use native.Mathlib.Decide.{dec_le}
use native.Mathlib.Nat.{suc-mul, le-div_iff_mul-le, min-eq_left}
use lib.Dec.{eqb}
use lib.ListN.{length, take, drop, length-take, length-drop}
use lib.Seq.{take_all}
use borrow.Author.Tests.{ltb-false}
use Rattle.lists.proofs.Tests.{neither}
use Rattle.cutting.specs.Cutting.{bad_size, segment_count, segment_data}

-- a length that 14 does not refuse
pub good-size : (size : ℕ) → bad_size size ≡ false → size ≤ 65536
unfolding bad_size
good-size size e = ltb-false 65536 size (neither (eqb size 0) _ e).1

-- a segment that the PDU has begins in it
pub begins : (mtu size k : ℕ) → 0 < mtu → k < segment_count mtu size → k * mtu < size
unfolding segment_count
begins mtu size k h l =
    let whole : suc k * mtu ≤ size + (mtu - 1) = (le-div_iff_mul-le h).0 l in
    omega (arith, suc-mul k mtu)

-- how many bytes of data it holds
pub length_data : (mtu : ℕ) (pdu : List ℕ) (k : ℕ) → length (segment_data mtu pdu k) ≡ min mtu (length pdu - k * mtu)
unfolding segment_data
length_data mtu pdu k = simp (length-take, length-drop)

-- the part of the PDU that the code lends: from there to n bytes on
abbrev pub lent : ℕ → List ℕ → ℕ → ℕ → List ℕ
lent mtu pdu k n = take (k * mtu + n - k * mtu) (drop (k * mtu) pdu)

-- it is the data
pub data_part : (mtu : ℕ) (pdu : List ℕ) (k n : ℕ) → n ≡ min mtu (length pdu - k * mtu) → lent mtu pdu k n ≡ segment_data mtu pdu k
unfolding segment_data
data_part mtu pdu k n e =
    let same : k * mtu + n - k * mtu ≡ n = omega arith in
    rw same (go (dec_le mtu (length pdu - k * mtu)))
  where
    go : Dec (mtu ≤ length pdu - k * mtu) → take n (drop (k * mtu) pdu) ≡ take mtu (drop (k * mtu) pdu)
    go (yes h) = ap (λ (i : ℕ). take i (drop (k * mtu) pdu)) (e ∙ min-eq_left h)
    go (no h) =
        let all = take_all mtu (drop (k * mtu) pdu) (simp length-drop (omega arith)) in
        take_all n (drop (k * mtu) pdu) (simp length-drop (omega arith)) ∙ sym all

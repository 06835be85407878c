-- The numbers and bytes that a type 9 packet's head is made of.
use Prim.Native.Nat.{ℕ, zero, suc, ◌+◌, ◌-◌, ◌*◌, ◌/◌, ◌%◌, ◌^◌, ◌≤◌, ◌<◌}
use mathlib.Core.Path.{◌≡◌, refl, ap}
use mathlib.Core.List.{List, [], ◌∷◌, ◌++◌}
use mathlib.Core.Bool.{Bool, true, false, cond}
use native.Mathlib.Nat.{mod-lt}
use native.Mathlib.Omega.{arith}
use lib.ListN.{length, take, drop, length-append}
use lib.Seq.{get_or-append_seam}
use lib.Dec.{eqb, ltb}
use borrow.Author.Tests.{eqb-true, eqb-false}
use Rattle.lists.specs.Bytes.{byte, high, low, in_bytes, AreBytes}
use Rattle.wire.specs.Packet.{tt_of, first_byte_of, addressed, bit}
use Rattle.wire.specs.Type9.{xh}
use Rattle.sizes.specs.Sizes.{pdu_length}
use Rattle.cutting.specs.Cutting.{segment_data, pad_of, flags_of, field_of}

-- ---- Numbers

-- byte 0 of priority q, with IDs of so many bytes
pub record FirstByte (ids q x : ℕ) : Type 0 where
  pub of_tt : x / 16 % 4 ≡ tt_of ids
  pub of_type : x % 16 ≡ 9
  pub of_priority : x / 64 ≡ q
  pub is_byte : x < 256

pub first_byte : (ids q : ℕ) → 1 ≤ ids → ids ≤ 2 → q ≤ 3 → FirstByte ids q (first_byte_of ids q 9)
first_byte ids q a b h = omega arith

-- two bytes of a number
pub two_bytes : (n : ℕ) → n < 65536 → high n * 256 + low n ≡ n
two_bytes n h = omega arith

pub two_bytes_mod : (n : ℕ) → high n * 256 + low n ≡ n % 65536
two_bytes_mod n = omega arith

-- what the flags say: S, E, the reserved bits, xh, O, P, and whether it is a byte
record Bits : Type 0 where
  S : Bool
  E : Bool
  reserved : ℕ
  xh : Bool
  O : Bool
  P : Bool
  byte : Bool

abbrev bits_of : ℕ → Bits
bits_of x = record { S = bit x 128; E = bit x 64; reserved = x / 8 % 8; xh = bit x 4; O = bit x 2; P = bit x 1; byte = ltb x 256 }

abbrev bits : (first final odd pad : Bool) → Bits
bits first final odd pad = record { S = first; E = final; reserved = 0; xh = false; O = odd; P = pad; byte = true }

all_bits : (first final odd pad : Bool) → bits_of (cond first 128 0 + cond final 64 0 + cond odd 2 0 + cond pad 1 0) ≡ bits first final odd pad
all_bits true true true true = refl
all_bits true true true false = refl
all_bits true true false true = refl
all_bits true true false false = refl
all_bits true false true true = refl
all_bits true false true false = refl
all_bits true false false true = refl
all_bits true false false false = refl
all_bits false true true true = refl
all_bits false true true false = refl
all_bits false true false true = refl
all_bits false true false false = refl
all_bits false false true true = refl
all_bits false false true false = refl
all_bits false false false true = refl
all_bits false false false false = refl

pub record Flags (first final odd pad : Bool) (x : ℕ) : Type 0 where
  pub of_S : bit x 128 ≡ first
  pub of_E : bit x 64 ≡ final
  pub of_xh : bit x 4 ≡ false
  pub of_O : bit x 2 ≡ odd
  pub of_P : bit x 1 ≡ pad
  pub reserved : x / 8 % 8 ≡ 0
  pub is_byte : ltb x 256 ≡ true

pub flags_of_lem : (first final : Bool) (n : ℕ) → Flags first final (eqb ((n + 1) / 2 % 2) 1) (eqb (n % 2) 1) (flags_of first final n)
unfolding flags_of
flags_of_lem first final n =
    let e = all_bits first final (eqb ((n + 1) / 2 % 2) 1) (eqb (n % 2) 1) in
    record {
      of_S = ap (λ (b : Bits). b.S) e;
      of_E = ap (λ (b : Bits). b.E) e;
      of_xh = ap (λ (b : Bits). b.xh) e;
      of_O = ap (λ (b : Bits). b.O) e;
      of_P = ap (λ (b : Bits). b.P) e;
      reserved = ap (λ (b : Bits). b.reserved) e;
      is_byte = ap (λ (b : Bits). b.byte) e;
    }

pub pad-zero : (n : ℕ) → eqb (n % 2) 1 ≡ true → pad_of n ≡ 0 ∷ []
unfolding pad_of
pad-zero n e = rw e

-- the byte at the end
pub last_zero : (l : List ℕ) → byte (l ++ (0 ∷ [])) (length (l ++ (0 ∷ [])) - 1) ≡ 0
last_zero l =
    let e : length (l ++ (0 ∷ [])) - 1 ≡ length l = omega (arith, length-append l (0 ∷ [])) in
    rw e (get_or-append_seam l 0 [] 0)

pub pdu_length_back : (size : ℕ) → 1 ≤ size → size ≤ 65536 → pdu_length (size % 65536) ≡ size
unfolding pdu_length
pdu_length_back size some most = go (eqb (size % 65536) 0) refl
  where
    go : (b : Bool) → eqb (size % 65536) 0 ≡ b → cond b 65536 (size % 65536) ≡ size
    go true e = let z = eqb-true (size % 65536) 0 e in omega arith
    go false e = let ne = eqb-false (size % 65536) 0 e in omega arith

-- ---- Bytes

pub no_bytes : AreBytes []
no_bytes i = omega arith

pub bytes_cons : (x : ℕ) (xs : List ℕ) → x < 256 → AreBytes xs → AreBytes (x ∷ xs)
bytes_cons x xs h t zero = h
bytes_cons x xs h t (suc i) = t i

pub bytes_append : (a b : List ℕ) → AreBytes a → AreBytes b → AreBytes (a ++ b)
bytes_append [] b h t = t
bytes_append (x ∷ xs) b h t = bytes_cons x (xs ++ b) (h 0) (bytes_append xs b (λ i. h (suc i)) t)

pub bytes_in : (n v : ℕ) → AreBytes (in_bytes n v)
unfolding in_bytes
bytes_in zero v = no_bytes
bytes_in (suc n) v = bytes_cons (v / 256 ^ n % 256) (in_bytes n v) (mod-lt (v / 256 ^ n) (omega arith)) (bytes_in n v)

pub bytes_addressed : (ids first to by : ℕ) (rest : List ℕ) → first < 256 → AreBytes rest → AreBytes (addressed ids first to by rest)
unfolding addressed
bytes_addressed ids first to by rest f r =
    bytes_cons first (in_bytes ids to ++ (in_bytes ids by ++ rest)) f
    (bytes_append (in_bytes ids to) (in_bytes ids by ++ rest) (bytes_in ids to) (bytes_append (in_bytes ids by) rest (bytes_in ids by) r))

pub bytes_take : (n : ℕ) (l : List ℕ) → AreBytes l → AreBytes (take n l)
bytes_take zero l h = no_bytes
bytes_take (suc n) [] h = no_bytes
bytes_take (suc n) (x ∷ xs) h = bytes_cons x (take n xs) (h 0) (bytes_take n xs (λ i. h (suc i)))

pub bytes_drop : (n : ℕ) (l : List ℕ) → AreBytes l → AreBytes (drop n l)
bytes_drop zero l h = h
bytes_drop (suc n) [] h = no_bytes
bytes_drop (suc n) (x ∷ xs) h = bytes_drop n xs (λ i. h (suc i))

pub bytes_data : (mtu : ℕ) (pdu : List ℕ) (k : ℕ) → AreBytes pdu → AreBytes (segment_data mtu pdu k)
unfolding segment_data
bytes_data mtu pdu k h = bytes_take mtu (drop (k * mtu) pdu) (bytes_drop (k * mtu) pdu h)

pub bytes_pad : (n : ℕ) → AreBytes (pad_of n)
unfolding pad_of
bytes_pad n = go (eqb (n % 2) 1)
  where
    go : (b : Bool) → AreBytes (cond b (0 ∷ []) [])
    go true = bytes_cons 0 [] (omega arith) no_bytes
    go false = no_bytes

pub bytes_field : (first final : Bool) (stream size : ℕ) → AreBytes (field_of first final stream size)
unfolding field_of
bytes_field true final stream size = bytes_cons (high stream) (low stream ∷ []) (omega arith) (bytes_cons (low stream) [] (omega arith) no_bytes)
bytes_field false true stream size = bytes_cons (high size) (low size ∷ []) (omega arith) (bytes_cons (low size) [] (omega arith) no_bytes)
bytes_field false false stream size = no_bytes

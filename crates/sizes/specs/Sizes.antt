-- Sizes of types 9 and 11: document 01, 'Packet bytes'; 002 (Part 2, rev. 2.1), 4.2.5 and table 4-4, for the ssize codes.
use Rattle.std.specs.Prelude.{ℕ, ◌-◌, ◌%◌, List, [], ◌∷◌, Bool, cond, not, ◌||◌, ◌&&◌, get_or, eqb, ltb, leb}
use Rattle.wire.specs.Segment.{Segment}

-- an MTU that is no multiple of 4 from 32 to 256 (document 01, 'Cutting and joining PDUs'; 004, the MTU register)
unfoldable pub bad_mtu : ℕ → Bool
bad_mtu mtu = ltb mtu 32 || ltb 256 mtu || not (eqb (mtu % 4) 0)

-- PDU length 0 means 65,536
unfoldable pub pdu_length : ℕ → ℕ
pdu_length n = cond (eqb n 0) 65536 n

-- so many bytes without the pad byte, where there is one
abbrev pub without_pad : ℕ → Bool → ℕ
without_pad raw pad = cond pad (raw - 1) raw

-- the data without the pad byte
unfoldable pub data_length : Segment → ℕ
data_length g = without_pad g.raw g.pad

-- the bytes that an ssize code means; 0: reserved
abbrev pub ssizes : List ℕ
ssizes = 0 ∷ 0 ∷ 0 ∷ 0 ∷ 0 ∷ 0 ∷ 0 ∷ 0 ∷ 0 ∷ 8 ∷ 16 ∷ 32 ∷ 64 ∷ 128 ∷ 256 ∷ 0 ∷ []

unfoldable pub bytes_of : ℕ → ℕ
bytes_of code = get_or ssizes code 0

-- 8 to `size` bytes in eights
unfoldable pub in_eights : ℕ → ℕ → Bool
in_eights n size = leb 8 n && (leb n size && eqb (n % 8) 0)

-- Cutting a PDU into type 9 packets (document 01, 'Cutting and joining PDUs' and 'Packet bytes'), with IDs of two bytes or one (document 02, M-112).
use Rattle.std.specs.Prelude.{ℕ, ◌+◌, ◌-◌, ◌*◌, ◌/◌, ◌%◌, List, [], ◌∷◌, ◌++◌, Bool, cond, ◌||◌, length, take, drop, eqb, ltb}
use Rattle.lists.specs.Bytes.{high, low}
use Rattle.wire.specs.Packet.{id_bytes, first_byte_of, addressed}
use Rattle.cutting.specs.declared.Heading.{Heading}

-- L is 0 or over 65,536
unfoldable pub bad_size : ℕ → Bool
bad_size size = eqb size 0 || ltb 65536 size

-- ceil(L / MTU)
unfoldable pub segment_count : ℕ → ℕ → ℕ
segment_count mtu size = (size + (mtu - 1)) / mtu

-- the data of segment k, counted from 0: MTU bytes, and what is left for the last
unfoldable pub segment_data : ℕ → List ℕ → ℕ → List ℕ
segment_data mtu pdu k = take mtu (drop (k * mtu) pdu)

-- S: the first; E: the last
unfoldable pub is_first : ℕ → Bool
is_first k = eqb k 0

unfoldable pub is_final : ℕ → List ℕ → ℕ → Bool
is_final mtu pdu k = eqb (k + 1) (segment_count mtu (length pdu))

-- P: a pad byte, 0, makes the data whole half-words; O: their number is odd
unfoldable pub pad_of : ℕ → List ℕ
pad_of n = cond (eqb (n % 2) 1) (0 ∷ []) []

-- S, E, three reserved bits, xh, O, P
unfoldable pub flags_of : Bool → Bool → ℕ → ℕ
flags_of first final n =
    cond first 0b1000_0000 0 + cond final 0b0100_0000 0 + cond (eqb ((n + 1) / 2 % 2) 1) 0b10 0 + cond (eqb (n % 2) 1) 0b1 0

-- two bytes: the streamID where S is set, the PDU length where only E is (65,536 as 0), none in a continuation
unfoldable pub field_of : Bool → Bool → ℕ → ℕ → List ℕ
field_of first final stream size =
    cond first (high stream ∷ low stream ∷ [])
    (cond final (high size ∷ low size ∷ [])
    [])

-- the bytes of an ID, as the heading chooses
abbrev pub ids_for : Heading → ℕ
ids_for h = id_bytes h.narrow

-- segment k of a PDU, to the byte
unfoldable pub packet_of : Heading → ℕ → List ℕ → ℕ → List ℕ
packet_of h mtu pdu k =
    -- priority, tt, type 9; the IDs
    addressed (ids_for h) (first_byte_of (ids_for h) h.priority 9) h.destination h.source
    (h.cos
    ∷ flags_of (is_first k) (is_final mtu pdu k) (length (segment_data mtu pdu k))
    ∷ (field_of (is_first k) (is_final mtu pdu k) h.stream (length pdu)
    ++ segment_data mtu pdu k
    ++ pad_of (length (segment_data mtu pdu k))))

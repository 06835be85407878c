-- What every packet begins with (document 01, 'Packet bytes'; document 02, M-112; RapidIO Part 3 for the IDs). Most significant bit first.
-- An ID has `ids` bytes, 2 or 1. Every place behind the IDs is an offset from `header ids`, and the offset does not know the width.
use Rattle.std.specs.Prelude.{ℕ, ◌+◌, ◌-◌, ◌*◌, ◌/◌, ◌%◌, List, ◌∷◌, ◌++◌, Bool, cond, not, ◌&&◌, eqb, ltb}
use Rattle.lists.specs.Bytes.{byte, number, in_bytes}
use Rattle.wire.specs.declared.Setup.{Setup}

-- byte 0: priority 2 bits, tt 2 bits, type 4 bits
abbrev pub priority : List ℕ → ℕ
priority p = byte p 0 / 64

abbrev pub tt : List ℕ → ℕ
tt p = byte p 0 / 16 % 4

abbrev pub packet_type : List ℕ → ℕ
packet_type p = byte p 0 % 16

-- the bytes of an ID, by the number that chooses the width: 0 is 16 bits, any other is 8 bits
unfoldable pub id_bytes : ℕ → ℕ
id_bytes narrow = cond (eqb narrow 0) 2 1

-- as setup chose it
abbrev pub ids_of : Setup → ℕ
ids_of setup = id_bytes setup.narrow

-- 8 bits, and an ID over 255
unfoldable pub too_wide : ℕ → ℕ → Bool
too_wide narrow id = not (eqb narrow 0) && ltb 255 id

-- tt: 01 for IDs of two bytes, 00 for IDs of one
abbrev pub tt_of : ℕ → ℕ
tt_of ids = ids - 1

-- from byte 1 on: destination ID, source ID
abbrev pub destination : (ids : ℕ) → List ℕ → ℕ
destination ids p = number ids p 1

abbrev pub source : (ids : ℕ) → List ℕ → ℕ
source ids p = number ids p (1 + ids)

-- where these end and the fields of a type begin
abbrev pub header : (ids : ℕ) → ℕ
header ids = 1 + 2 * ids

-- byte 0 of a packet written with IDs of so many bytes
abbrev pub first_byte_of : (ids priority type : ℕ) → ℕ
first_byte_of ids priority type = priority * 64 + tt_of ids * 16 + type

-- a packet written: byte 0, destination ID, source ID, and what stands behind them
unfoldable pub addressed : (ids first destination source : ℕ) → List ℕ → List ℕ
addressed ids first destination source rest = first ∷ (in_bytes ids destination ++ (in_bytes ids source ++ rest))

-- whether the bit of that weight is set in a byte
abbrev pub bit : ℕ → ℕ → Bool
bit b weight = eqb (b / weight % 2) 1

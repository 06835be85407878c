-- Reserved bits and the pad byte are ignored on reading (document 01, 'Packet bytes').
use Rattle.std.specs.Prelude.{ℕ, ◌+◌, ◌/◌, ◌%◌, ◌<◌, ◌≡◌, List, [], ◌∷◌, Bool, false, ◌||◌, ◌&&◌, length, eqb, ltb}
use Rattle.lists.specs.Bytes.{byte}
use Rattle.lists.specs.Each.{Each}
use Rattle.wire.specs.Packet.{id_bytes, header}
use Rattle.wire.specs.Head.{is9}
use Rattle.wire.specs.Type9.{flags, is_p, segment_of}
use Rattle.contexts.specs.State.{ids_in}
use Rattle.reading.specs.Desk.{Desk, state_on}
use Rattle.reading.specs.Table.{lent}
use Rattle.reading.specs.Read.{reading}
use Rattle.flows.specs.Widths.{both_widths, at_width}

-- byte i is the pad of a type 9 packet: the last byte, where P is set and there are data
unfoldable pub is_pad : (ids : ℕ) → List ℕ → ℕ → Bool
is_pad ids p i = is_p ids p && (ltb (segment_of ids p).from (length p) && eqb (i + 1) (length p))

-- byte i of a type 9 packet is not read, or not all of it: the byte with the three reserved bits, or the pad
unfoldable pub has_ignored : (ids : ℕ) → List ℕ → ℕ → Bool
has_ignored ids p i = is9 p && (eqb i (header ids + 1) || is_pad ids p i)

-- two packets that differ only in reserved bits and the pad
pub record DifferInIgnored (ids : ℕ) (p q : List ℕ) : Type 0 where
  pub size : length p ≡ length q
  pub others : (i : ℕ) → i < length p → has_ignored ids p i ≡ false → byte p i ≡ byte q i
  -- the byte with S, E, three reserved bits, xh, O, P: its first two bits, and its last three
  pub S-E : flags ids p / 64 ≡ flags ids q / 64
  pub xh_O_P : flags ids p % 8 ≡ flags ids q % 8

-- everything else lent the same, they are answered alike, and leave the same words, memories and response
abbrev pub ReservedAndPadIgnored : Type 0
ReservedAndPadIgnored =
    (d : Desk) (p q : List ℕ) → DifferInIgnored (ids_in (state_on d)) p q → reading (lent d p) ≡ reading (lent d q)

-- such a pair: the first packet of the paper's sample log, and the same with all three reserved bits and the pad set; with IDs of either width
abbrev pub plain_packet : List ℕ
plain_packet = 0x19 ∷ 0x00 ∷ 0x01 ∷ 0x00 ∷ 0x02 ∷ 0x05 ∷ 0xC1 ∷ 0x00 ∷ 0x07 ∷ 0xAA ∷ 0xBB ∷ 0xCC ∷ 0x00 ∷ []

abbrev pub strange_packet : List ℕ
strange_packet = 0x19 ∷ 0x00 ∷ 0x01 ∷ 0x00 ∷ 0x02 ∷ 0x05 ∷ 0xF9 ∷ 0x00 ∷ 0x07 ∷ 0xAA ∷ 0xBB ∷ 0xCC ∷ 0xFF ∷ []

pub record IgnoredAt (narrow : ℕ) : Type 0 where
  pub alike : DifferInIgnored (id_bytes narrow) (at_width narrow plain_packet) (at_width narrow strange_packet)
  pub other_bits : flags (id_bytes narrow) (at_width narrow plain_packet) ≡ flags (id_bytes narrow) (at_width narrow strange_packet) → ⊥
  -- the last of four data bytes, which come behind the streamID
  pub other_pad : byte (at_width narrow plain_packet) (header (id_bytes narrow) + 7) ≡ byte (at_width narrow strange_packet) (header (id_bytes narrow) + 7) → ⊥

abbrev pub IgnoredNotEmpty : Type 0
IgnoredNotEmpty = Each IgnoredAt both_widths

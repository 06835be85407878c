-- The head of a packet: what types 9 and 11 begin with. The rows of the refusal table that it decides, in document 01's order and words.
use Rattle.std.specs.Prelude.{ℕ, ◌+◌, List, [], ◌∷◌, Bool, not, ◌||◌, ◌&&◌, length, eqb, ltb}
use Rattle.tables.specs.Refusals.{Row, row, all}
use Rattle.wire.specs.Packet.{header, tt, tt_of, packet_type, destination}
use Rattle.wire.specs.Type9.{is_s, is_e, xh}

-- the packet is under n bytes long
abbrev pub under : ℕ → List ℕ → Bool
under n p = ltb (length p) n

abbrev pub is9 : List ℕ → Bool
is9 p = eqb (packet_type p) 9

abbrev pub is11 : List ℕ → Bool
is11 p = eqb (packet_type p) 11

-- for the endpoint of that device ID and width; the lengths are those of IDs of two bytes, with IDs of one each is 2 less
unfoldable pub head_rows : (device ids : ℕ) → List ℕ → List Row
head_rows device ids p =
    -- under 5 bytes
    row 1 (under (header ids) p) all
    -- tt not 01; with IDs of one byte, not 00
    ∷ row 2 (not (eqb (tt p) (tt_of ids))) all
    -- destination not ours
    ∷ row 3 (not (eqb (destination ids p) device)) all
    -- type not 9 or 11
    ∷ row 4 (not (is9 p || is11 p)) all
    -- under 7 bytes
    ∷ row 1 (under (header ids + 2) p) all
    -- type 9, xh=1
    ∷ row 5 (is9 p && xh ids p) all
    -- type 9 with S or E, under 9 bytes
    ∷ row 1 (is9 p && ((is_s ids p || is_e ids p) && under (header ids + 4) p)) all
    ∷ []

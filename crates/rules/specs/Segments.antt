-- What makes a type 9 packet wrong by itself: row 6, and the sizes of rows 7 and 11 (document 01, 'Refusal numbers').
use Rattle.std.specs.Prelude.{ℕ, ◌/◌, ◌%◌, Bool, cond, not, ◌||◌, ◌&&◌, eqb, ltb}
use Rattle.wire.specs.Segment.{Segment}
use Rattle.sizes.specs.Sizes.{pdu_length}

-- O=1 exactly if the number of half-words is odd, for `raw` bytes
abbrev pub wrong_o : ℕ → Bool → Bool
wrong_o raw odd = cond (eqb (raw / 2 % 2) 1) (not odd) odd

-- no data, odd bytes of data, or O wrong
unfoldable pub wrong_form : ℕ → Bool → Bool
wrong_form raw odd = eqb raw 0 || eqb (raw % 2) 1 || wrong_o raw odd

-- 6: for a segment's bytes, with the pad
unfoldable pub malformed : Segment → Bool
malformed g = wrong_form g.raw g.odd

-- 7, for n bytes of data: start or continuation not MTU data bytes (pad not counted); end or single over MTU
abbrev pub wrong_size : Bool → ℕ → ℕ → Bool
wrong_size end n mtu = cond end (ltb mtu n) (not (eqb n mtu))

-- 11, for n bytes in all: end, total differs from PDU length
-- (of a segment with E set; a single, which has no PDU length, is left out where this is used: row 11 asks for S=0 first)
abbrev pub wrong_length : Segment → ℕ → Bool
wrong_length g n = g.ends && not (eqb n (pdu_length g.field))

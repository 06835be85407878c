-- What makes a type 11 packet wrong by itself: rows 20 to 22 (document 01, 'Refusal numbers').
use Rattle.std.specs.Prelude.{ℕ, List, [], ◌∷◌, Bool, cond, not, ◌&&◌, eqb, ltb}
use Rattle.tables.specs.Refusals.{Row, row, all_error, number_of, verdict}
use Rattle.wire.specs.declared.MessageSegment.{MessageSegment}
use Rattle.wire.specs.Type11.{is_single, is_last}
use Rattle.sizes.specs.Sizes.{bytes_of, in_eights}

-- 20: ssize reserved
unfoldable pub reserved_size : MessageSegment → Bool
reserved_size m = eqb (bytes_of m.ssize) 0

-- 21: the last segment has 8 to ssize bytes in eights, every other number, past msglen too, exactly ssize
unfoldable pub bad_length : MessageSegment → Bool
bad_length m = cond (is_last m) (not (in_eights m.raw (bytes_of m.ssize))) (not (eqb m.raw (bytes_of m.ssize)))

-- 22: msglen over 0, msgseg over msglen
unfoldable pub past_last : MessageSegment → Bool
past_last m = not (is_single m) && ltb m.msglen m.msgseg

-- the rows of a message packet's form, in the paper's order and words
unfoldable pub form_rows : MessageSegment → List Row
form_rows m =
    -- ssize reserved
    row 20 (reserved_size m) all_error
    -- message data length breaks the rule
    ∷ row 21 (bad_length m) all_error
    -- msglen over 0, msgseg over msglen
    ∷ row 22 (past_last m) all_error
    ∷ []

-- the refusal by these rows, or 0
unfoldable pub judged : MessageSegment → ℕ
judged m = number_of (verdict (form_rows m))

-- the kept length of the last segment, with this segment
abbrev pub last_with : MessageSegment → ℕ → ℕ
last_with m last = cond (eqb m.msgseg m.msglen) m.raw last

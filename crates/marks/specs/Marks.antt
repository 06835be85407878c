-- The set of segments received of a message, kept as sixteen marks: mark k is bit k of a number.
use Rattle.std.specs.Prelude.{ℕ, zero, suc, ◌+◌, ◌^◌, Bool, true, ◌&&◌, eqb}
use Rattle.std.specs.Int.Count.{ones}
use Rattle.wire.specs.Packet.{bit}

-- segment k is marked
unfoldable pub marked : ℕ → ℕ → Bool
marked marks k = bit marks (2 ^ k)

-- with segment k, so far unmarked, marked too
abbrev pub with_mark : ℕ → ℕ → ℕ
with_mark marks k = marks + 2 ^ k

-- segments 0 to count-1 are all marked
unfoldable pub all_marked : ℕ → ℕ → Bool
all_marked marks zero = true
all_marked marks (suc count) = all_marked marks count && marked marks count

-- the form that document 01 names: complete exactly when the count of ones is msglen+1
unfoldable pub counted_complete : (marks msglen : ℕ) → Bool
counted_complete marks msglen = eqb (ones marks) (msglen + 1)

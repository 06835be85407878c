-- What is refused of a lent state, before anything else is looked at, and which rooms there are.
use Rattle.std.specs.Prelude.{ℕ, ◌*◌, List, [], ◌∷◌, Bool, not, ◌&&◌, length, eqb, ltb, leb}
use Rattle.tables.specs.Refusals.{Row, row, all, number_of, verdict}
use Rattle.contexts.specs.Words.{state_of, state_words}
use Rattle.refusal19.specs.Refusal19.{named_by_19}

-- rows 19 and 12 of a lent state: a buffer of another length is none, but a lent memory of the wrong size
abbrev pub state_rows : List ℕ → List Row
state_rows words =
    row 19 (eqb (length words) state_words && named_by_19 (state_of words)) all
    ∷ row 12 (not (eqb (length words) state_words)) all
    ∷ []

-- what a lent state is refused with: 19 or 12; 0: it is a state, and 19 does not name it
unfoldable pub state_refusal : List ℕ → ℕ
state_refusal words = number_of (verdict (state_rows words))

-- a memory of so many rooms of `room` bytes has that size, n is one of them, and it holds l bytes
unfoldable pub has_room : (rooms room size n l : ℕ) → Bool
has_room rooms room size n l = eqb size (rooms * room) && (ltb n rooms && leb l room)

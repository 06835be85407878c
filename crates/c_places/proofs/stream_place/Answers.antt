-- `c_places::stream_place` meets its contract: nowhere without a state, else the room's place.
use Rattle.std.proofs.Common.{ℕ, ◌≡◌, ap, sym, ◌∙◌, false, arith, length}
use Rattle.contexts.specs.State.{stream_contexts}
use Rattle.contexts.specs.Words.{state_of, state_words}
use Rattle.refusal19.specs.Refusal19.{named_by_19}
use Rattle.lent_state.proofs.Lent.{state_there}
use Rattle.refusal19.proofs.Good.{good}
use Rattle.room_parts.specs.Parts.{room_part}
use Rattle.c_places.specs.Places.{place_of}
use Rattle.c_places.proofs.Laws.{is_state, stream_nowhere, stream_there}
use Rattle.c_places.proofs.stream_place.Goals as goal
use Rattle.c_places.proofs.stream_place.Goals.{Else-is_err}

-- rows 19 and 12 passed
there : (c : Else-is_err) → (length c.args.state.now ≡ state_words) × (named_by_19 (state_of c.args.state.now) ≡ false)
there c = state_there _ (is_state _ _ c.state_refusal.ensures (sym c.is_err.ensures.value ∙ c.if-is_err.false))

-- no state, or one that 19 names
pub returns-then-is_err : goal.returns-then-is_err
returns-then-is_err c =
    c.nowhere.ensures ∙ ap place_of (stream_nowhere _ _ c.state_refusal.ensures _ _ _ (sym c.is_err.ensures.value ∙ c.if-is_err.true))

pub room-requires : goal.room-requires
room-requires c = (there (goal.at.room-requires c).Else-is_err).0

pub room_at-requires : goal.room_at-requires
room_at-requires c =
    (omega arith, rw c.room.ensures (good (state_of _) (there (goal.at.room_at-requires c).Else-is_err).1).room)

-- the room's place
pub returns : goal.returns
returns c =
    let a = c.args in
    c.room_at.ensures
    ∙ (ap (λ (k : ℕ). place_of (room_part stream_contexts k a.size a.n a.l)) c.room.ensures
    ∙ ap place_of (stream_there _ _ c.state_refusal.ensures _ _ _ (sym c.is_err.ensures.value ∙ c.if-is_err.false)))

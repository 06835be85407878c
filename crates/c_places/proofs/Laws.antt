-- A room's place by what the code asks: the state, then the room.
use Prim.Native.Nat.{ℕ}
use mathlib.Core.Path.{◌≡◌, refl, sym, ◌∙◌}
use mathlib.Core.List.{List}
use mathlib.Core.Bool.{true, false}
use borrow.Author.Tests.{ne_eqb}
use Rattle.std.proofs.Common.{Result, Ok, Err, is_err}
use Rattle.refusals.specs.declared.Refusal.{Refusal}
use Rattle.refusals.specs.Numbers.{refused_by}
use Rattle.refusals.proofs.Back.{never_0}
use Rattle.contexts.specs.State.{stream_contexts, message_contexts}
use Rattle.contexts.specs.Words.{state_of}
use Rattle.lent_state.specs.Lent.{state_refusal}
use Rattle.message_rooms.specs.Placing.{message_room_bytes}
use Rattle.room_parts.specs.Parts.{empty_part, room_part, stream_room, message_room}

-- a refusal has a number, and an answer that is none has 0
refuses : {A : Type 0} (r : Result A Refusal) → is_err r ≡ true → refused_by r ≡ 0 → ⊥
refuses (Ok _) b z = cc
refuses (Err refusal) b z = never_0 refusal z

passes : {A : Type 0} (r : Result A Refusal) → is_err r ≡ false → refused_by r ≡ 0
passes (Ok _) b = refl
passes (Err _) b = cc

module _ {A : Type 0} (words : List ℕ) (asked : Result A Refusal) (e : refused_by asked ≡ state_refusal words) where
  pub is_state : is_err asked ≡ false → state_refusal words ≡ 0
  is_state b = sym e ∙ passes asked b

  no_state : is_err asked ≡ true → state_refusal words ≡ 0 → ⊥
  no_state b z = refuses asked b (e ∙ z)

  module _ (size n l : ℕ) where
    -- no state, or one that 19 names
    pub stream_nowhere : is_err asked ≡ true → empty_part ≡ stream_room words size n l
    unfolding stream_room
    stream_nowhere b = rw (ne_eqb (state_refusal words) 0 (no_state b))

    pub message_nowhere : is_err asked ≡ true → empty_part ≡ message_room words size n l
    unfolding message_room
    message_nowhere b = rw (ne_eqb (state_refusal words) 0 (no_state b))

    -- a state
    pub stream_there : is_err asked ≡ false → room_part stream_contexts (state_of words).setup.room size n l ≡ stream_room words size n l
    unfolding stream_room
    stream_there b = rw (is_state b)

    pub message_there : is_err asked ≡ false → room_part message_contexts message_room_bytes size n l ≡ message_room words size n l
    unfolding message_room
    message_there b = rw (is_state b)

-- Laws of rooms.
use Prim.Native.Nat.{ℕ, ◌≤◌, ◌<◌, ◌+◌, ◌-◌, ◌*◌}
use mathlib.Core.Path.{◌≡◌}
use mathlib.Core.List.{List}
use mathlib.Core.Bool.{true, false}
use lib.ListN.{length, take, drop}
use denote.Ref.{Bor}
use Rattle.contexts.specs.State.{stream_contexts, message_contexts}
use Rattle.contexts.specs.Words.{state_of, state_words}
use Rattle.refusal19.specs.Refusal19.{named_by_19}
use Rattle.lent_state.specs.Lent.{has_room}
use Rattle.lent_state.proofs.Lent.{good-state, room-there}
use Rattle.message_rooms.specs.Placing.{message_room_bytes, message_memory_bytes}
use Rattle.room_parts.specs.Parts.{Part, part, empty_part, room_part, stream_room, message_room, IsPart}

module _ (rooms room size n l : ℕ) where
  pub no_room : has_room rooms room size n l ≡ false → empty_part ≡ room_part rooms room size n l
  unfolding room_part
  no_room e = rw e

  pub a_room : has_room rooms room size n l ≡ true → part (n * room) l ≡ room_part rooms room size n l
  unfolding room_part
  a_room e = rw e

-- with a state that 19 does not name and a memory of the right size, each room is handed out, and each length that it has
module _ (words : List ℕ) (size n l : ℕ) (whole : length words ≡ state_words) (good : named_by_19 (state_of words) ≡ false) where
  pub stream_room_itself : size ≡ stream_contexts * (state_of words).setup.room → n < stream_contexts → l ≤ (state_of words).setup.room
      → stream_room words size n l ≡ part (n * (state_of words).setup.room) l
  unfolding stream_room room_part
  stream_room_itself z h fits = rw (← good-state words whole good, room-there stream_contexts (state_of words).setup.room size n l z h fits)

  pub message_room_itself : size ≡ message_memory_bytes → n < message_contexts → l ≤ message_room_bytes → message_room words size n l ≡ part (n * message_room_bytes) l
  unfolding message_room room_part
  message_room_itself z h fits = rw (← good-state words whole good, room-there message_contexts message_room_bytes size n l z h fits)

-- the part that a range of the memory is
pub ranged : (memory r : Bor (List ℕ)) (from end : ℕ) (p : Part)
    → part from (end - from) ≡ p → r.ref_ptr.0 ≡ memory.ref_ptr.0 → r.ref_ptr.1 ≡ memory.ref_ptr.1 + from → r.now ≡ take (end - from) (drop from memory.now) → IsPart memory p r
ranged memory r from end p e b o y = rw (← e) (record { block = b; offset = o; bytes = y })

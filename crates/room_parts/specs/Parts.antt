-- Rooms: that part of the caller's own memory, from n R; n past the last context, l over the room, memory of another size or a state that 19
-- names: an empty part (document 01, 'Cutting and joining PDUs').
use Rattle.std.specs.Prelude.{ℕ, ◌+◌, ◌*◌, ◌≡◌, List, cond, length, take, drop, eqb}
use Rattle.std.specs.Borrow.{Bor}
use Rattle.contexts.specs.State.{stream_contexts, message_contexts}
use Rattle.contexts.specs.Words.{state_of}
use Rattle.lent_state.specs.Lent.{state_refusal, has_room}
use Rattle.message_rooms.specs.Placing.{message_room_bytes}

-- where a part of a memory begins, and its bytes
pub record Part : Type 0 where
  pub from : ℕ
  pub size : ℕ

abbrev pub part : ℕ → ℕ → Part
part from size = record { from = from; size = size }

abbrev pub empty_part : Part
empty_part = part 0 0

unfoldable pub room_part : (rooms room size n l : ℕ) → Part
room_part rooms room size n l = cond (has_room rooms room size n l) (part (n * room) l) empty_part

unfoldable pub stream_room : List ℕ → (size n l : ℕ) → Part
stream_room words size n l = cond (eqb (state_refusal words) 0) (room_part stream_contexts (state_of words).setup.room size n l) empty_part

unfoldable pub message_room : List ℕ → (size n l : ℕ) → Part
message_room words size n l = cond (eqb (state_refusal words) 0) (room_part message_contexts message_room_bytes size n l) empty_part

-- what is handed back is that part of the memory: it lies there, and holds those bytes
pub record IsPart (memory : Bor (List ℕ)) (p : Part) (r : Bor (List ℕ)) : Type 0 where
  pub block : r.ref_ptr.0 ≡ memory.ref_ptr.0
  pub offset : r.ref_ptr.1 ≡ memory.ref_ptr.1 + p.from
  pub bytes : r.now ≡ take p.size (drop p.from memory.now)

-- the promises of `stream_room` and `message_room`
abbrev pub StreamRoomPromise : List ℕ → Bor (List ℕ) → ℕ → ℕ → Bor (List ℕ) → Type 0
StreamRoomPromise words memory n l r = IsPart memory (stream_room words (length memory.now) n l) r

abbrev pub MessageRoomPromise : List ℕ → Bor (List ℕ) → ℕ → ℕ → Bor (List ℕ) → Type 0
MessageRoomPromise words memory n l r = IsPart memory (message_room words (length memory.now) n l) r

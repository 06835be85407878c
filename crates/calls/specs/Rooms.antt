-- THE ROOM OF WHAT IS DELIVERED: after a delivery, the public room call with the answer's context and length hands back the delivered bytes,
-- of PDUs and of messages; and no delivered length is 0, or reaches past its own room.
use Rattle.std.specs.Prelude.{ℕ, ◌*◌, ◌≤◌, ◌<◌, ◌≡◌, List, length}
use Rattle.std.specs.Borrow.{Bor}
use Rattle.lists.specs.Bytes.{AreBytes}
use Rattle.answers.specs.Answers.{delivered, message}
use Rattle.wire.specs.declared.Flow.{Flow}
use Rattle.contexts.specs.State.{stream_contexts, message_contexts}
use Rattle.message_rooms.specs.Placing.{message_room_bytes}
use Rattle.reading.specs.Desk.{Desk, state_on}
use Rattle.room_parts.specs.Parts.{Part, part, stream_room, message_room, IsPart}
use Rattle.flows.specs.Deliveries.{read, after, in_room}

-- What a room call does with an answer's context and length: there are so many rooms of so many bytes in that memory, and `asked` says which
-- part of a memory of some length the call hands back
pub record RoomHandedBack (rooms room : ℕ) (memory : List ℕ) (asked : ℕ → ℕ → ℕ → Part) (context size : ℕ) : Type 0 where
  -- the context is one of them, the length is not 0, and stays within its room
  pub below : context < rooms
  pub some_byte : 1 ≤ size
  pub within : size ≤ room
  -- it hands back the part from the room's beginning, of that length
  pub handed : asked (length memory) context size ≡ part (context * room) size
  -- so whatever call keeps its promise over that memory gives exactly the bytes that are delivered
  pub bytes : (lends gets : Bor (List ℕ)) → lends.now ≡ memory → IsPart lends (asked (length lends.now) context size) gets
      → gets.now ≡ in_room room memory context size
  -- and these are as many as the answer says
  pub measured : length (in_room room memory context size) ≡ size

-- at every desk, whatever its words and memories
pub record RoomOfDelivered : Type 0 where
  -- a PDU, and `stream_room`
  pub of_PDU : (d : Desk) (p : List ℕ) (context : ℕ) (flow : Flow) (stream size : ℕ) → (read d p).says ≡ delivered context flow stream size
      → RoomHandedBack stream_contexts (state_on (after d p)).setup.room (after d p).stream_memory (stream_room (after d p).words) context size
  -- a message, and `message_room`
  pub of_message_lem : (d : Desk) (p : List ℕ) (context source letter mailbox size : ℕ) → AreBytes p → (read d p).says ≡ message context source letter mailbox size
      → RoomHandedBack message_contexts message_room_bytes (after d p).message_memory (message_room (after d p).words) context size

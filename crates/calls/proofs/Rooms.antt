-- After a delivery everything lent fits, the context is there and the length is within the room: so the room call hands back that part.
use Prim.Native.Nat.{ℕ, ◌*◌, ◌≤◌, ◌<◌}
use mathlib.Core.Path.{◌≡◌, ap, ◌∙◌}
use mathlib.Core.List.{List}
use native.Mathlib.Omega.{arith}
use native.Mathlib.Nat.{mul-le-mul_right}
use lib.ListN.{length, take, drop, length-take, length-drop}
use Rattle.reading.specs.Desk.{Desk, state_on}
use Rattle.reading.specs.Table.{lent}
use Rattle.reading.specs.Inside.{Fit}
use Rattle.reading.proofs.Kept.{room-kept}
use Rattle.room_parts.specs.Parts.{Part, part, stream_room, message_room}
use Rattle.room_parts.proofs.Laws.{stream_room_itself, message_room_itself}
use Rattle.flows.specs.Deliveries.{after}
use Rattle.sending.proofs.Measured.{delivers}
use Rattle.calls.specs.Rooms.{RoomHandedBack, RoomOfDelivered}
use Rattle.calls.proofs.Boxes.{delivers_message}

-- what is known of the part is known of the bytes
gives : {rooms room : ℕ} {memory : List ℕ} (asked : ℕ → ℕ → ℕ → Part) {context size : ℕ} → length memory ≡ rooms * room → context < rooms → 1 ≤ size → size ≤ room
    → asked (length memory) context size ≡ part (context * room) size → RoomHandedBack rooms room memory asked context size
gives {rooms = rooms} {room = room} {memory = memory} asked {context = context} {size = size} long below some_byte within handed = record {
  below = below;
  some_byte = some_byte;
  within = within;
  handed = handed;
  bytes = λ lends gets e part_of.
      part_of.bytes
      ∙ (ap (λ (l : List ℕ). take (asked (length l) context size).size (drop (asked (length l) context size).from l)) e
      ∙ ap (λ (q : Part). take q.size (drop q.from memory)) handed);
  measured =
      let room-ends = mul-le-mul_right room below in
      simp (length-take, length-drop) (omega (arith, room-ends));
}

-- 16 rooms of R bytes, and 8 of 4,096
stream_asked : (d : Desk) → Fit d → (context size : ℕ) → context < 16 → size ≤ (state_on d).setup.room
    → stream_room d.words (length d.stream_memory) context size ≡ part (context * (state_on d).setup.room) size
stream_asked d fit context size = stream_room_itself d.words (length d.stream_memory) context size fit.whole fit.good fit.rooms

message_asked : (d : Desk) → Fit d → (context size : ℕ) → context < 8 → size ≤ 4096 → message_room d.words (length d.message_memory) context size ≡ part (context * 4096) size
message_asked d fit context size = message_room_itself d.words (length d.message_memory) context size fit.whole fit.good fit.boxes

pub room_of_delivered : RoomOfDelivered
room_of_delivered = record {
  of_PDU = λ d p context flow stream size e.
      let left = delivers (lent d p) context flow stream size e in
      let within : size ≤ (state_on (after d p)).setup.room = rw (room-kept (lent d p)) left.within in
      gives (stream_room (after d p).words) left.fit.rooms left.below left.some_byte within (stream_asked (after d p) left.fit context size left.below within);
  of_message_lem = λ d p context source letter mailbox size bytes e.
      let left = delivers_message (lent d p) context source letter mailbox size (bytes _) e in
      gives (message_room (after d p).words) left.fit.boxes left.below left.some_byte left.within (message_asked (after d p) left.fit context size left.below left.within);
}

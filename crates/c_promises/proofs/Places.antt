-- Places: they lie inside the memory; and after a delivery the place is the part that the room call hands back.
use Prim.Native.Nat.{ℕ, ◌+◌, ◌*◌, ◌≤◌}
use mathlib.Core.Path.{◌≡◌, refl, ap, ◌∙◌}
use mathlib.Core.Bool.{Bool, true, false, cond}
use native.Mathlib.Omega.{arith}
use lib.Dec.{eqb}
use lib.ListN.{length}
use Rattle.lists.specs.Bytes.{AreBytes}
use Rattle.answers.specs.Answers.{Said, held, delivered, message, refused}
use Rattle.contexts.specs.State.{stream_contexts, message_contexts}
use Rattle.contexts.specs.Words.{state_of}
use Rattle.lent_state.specs.Lent.{state_refusal, has_room}
use Rattle.lent_state.proofs.Lent.{room-inside}
use Rattle.message_rooms.specs.Placing.{message_room_bytes}
use Rattle.reading.specs.Desk.{state_on}
use Rattle.reading.specs.Table.{Lent}
use Rattle.reading.specs.Read.{reading}
use Rattle.room_parts.specs.Parts.{Part, part, empty_part, room_part, stream_room, message_room}
use Rattle.calls.proofs.Rooms.{room_of_delivered}
use Rattle.c_reports.specs.declared.Report.{Report}
use Rattle.c_reports.specs.Reports.{report_of}
use Rattle.c_places.specs.declared.Place.{Place}
use Rattle.c_places.specs.Places.{place_of, StreamPlacePromise, MessagePlacePromise}
use Rattle.answers.specs.Kinds.{delivered_kind, message_kind}
use Rattle.c_promises.specs.OfCalls.{PlacesInside, PlaceOfDelivered, RoomOfDeliveredFromC}

-- ---- Inside

-- a part ends inside a memory of that size
abbrev Inside : ℕ → Part → Type 0
Inside size p = p.from + p.size ≤ size

room-part : (rooms room size n l : ℕ) → Inside size (room_part rooms room size n l)
unfolding room_part
room-part rooms room size n l = go (has_room rooms room size n l) (room-inside rooms room size n l)
  where
    go : (b : Bool) → (b ≡ true → n * room + l ≤ size) → Inside size (cond b (part (n * room) l) empty_part)
    go true inside = inside refl
    go false inside = omega arith

or-none : (b : Bool) (size : ℕ) (p : Part) → Inside size p → Inside size (cond b p empty_part)
or-none true size p inside = inside
or-none false size p inside = omega arith

pub places_inside : PlacesInside
unfolding stream_room message_room
places_inside = record {
  stream = λ words size n l place e.
      rw e (or-none (eqb (state_refusal words) 0) size _ (room-part stream_contexts (state_of words).setup.room size n l));
  message = λ words size n l place e.
      rw e (or-none (eqb (state_refusal words) 0) size _ (room-part message_contexts message_room_bytes size n l));
}

-- ---- After a delivery

module _ (x : Lent) where
  -- the report of what is said
  abbrev told : Said → Report
  told says = report_of says (reading x).dropped (reading x).replied

  of_PDU : (says : Said) → (reading x).says ≡ says → (place : Place) → (told says).kind ≡ delivered_kind
      → StreamPlacePromise (reading x).desk.words (length (reading x).desk.stream_memory) (told says).context (told says).length place
      → PlaceOfDelivered stream_contexts (state_on (reading x).desk).setup.room (told says).context (told says).length place
  unfolding report_of
  of_PDU (delivered context flow stream size) e place two answers =
      let there = room_of_delivered.of_PDU x.desk x.packet context flow stream size e in
      record { below = there.below; some_byte = there.some_byte; within = there.within; whole-place = answers ∙ ap place_of there.handed }
  of_PDU held e place two answers = absurd (omega (arith, two))
  of_PDU (message context source letter mailbox size) e place two answers = absurd (omega (arith, two))
  of_PDU (refused number) e place two answers = absurd (omega (arith, two))

  of_message_lem : AreBytes x.packet → (says : Said) → (reading x).says ≡ says → (place : Place) → (told says).kind ≡ message_kind
      → MessagePlacePromise (reading x).desk.words (length (reading x).desk.message_memory) (told says).context (told says).length place
      → PlaceOfDelivered message_contexts message_room_bytes (told says).context (told says).length place
  unfolding report_of
  of_message_lem bytes (message context source letter mailbox size) e place three answers =
      let there = room_of_delivered.of_message_lem x.desk x.packet context source letter mailbox size bytes e in
      record { below = there.below; some_byte = there.some_byte; within = there.within; whole-place = answers ∙ ap place_of there.handed }
  of_message_lem bytes held e place three answers = absurd (omega (arith, three))
  of_message_lem bytes (delivered context flow stream size) e place three answers = absurd (omega (arith, three))
  of_message_lem bytes (refused number) e place three answers = absurd (omega (arith, three))

pub room_of_delivered_from_c : RoomOfDeliveredFromC
room_of_delivered_from_c = record {
  of_PDU = λ x place two answers. of_PDU x (reading x).says refl place two answers;
  of_message_lem = λ x place bytes three answers. of_message_lem x bytes (reading x).says refl place three answers;
}

-- A room as an offset and a length: the part of the caller's memory that the endpoint's `stream_room` and `message_room` hand back.
use Rattle.std.specs.Prelude.{ℕ, ◌≡◌, List}
use Rattle.room_parts.specs.Parts.{Part, stream_room, message_room}
use Rattle.c_places.specs.declared.Place.{Place}

abbrev pub place_of : Part → Place
place_of p = record { offset = p.from; length = p.size }

-- the promises of `stream_place` and `message_place`, for a memory of `size` bytes
abbrev pub StreamPlacePromise : List ℕ → ℕ → ℕ → ℕ → Place → Type 0
StreamPlacePromise words size n l r = r ≡ place_of (stream_room words size n l)

abbrev pub MessagePlacePromise : List ℕ → ℕ → ℕ → ℕ → Place → Type 0
MessagePlacePromise words size n l r = r ≡ place_of (message_room words size n l)

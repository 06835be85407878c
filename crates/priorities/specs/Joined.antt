-- THE FLOW OF A DELIVERY (document 02, M-103): its source, priority and cos are those of every packet that was joined to it. From fresh, whatever
-- packets come, and on however many flows.
use Rattle.std.specs.Prelude.{ℕ, ◌≡◌, List, [], ◌∷◌, ◌++◌, map, Bool, true, false, cond, ◌&&◌, eqb}
use Rattle.lists.specs.Bytes.{AreBytes}
use Rattle.lists.specs.Each.{Each}
use Rattle.lists.specs.Rows.{joined}
use Rattle.answers.specs.Answers.{Said, held, delivered, message, refused}
use Rattle.wire.specs.declared.Flow.{Flow}
use Rattle.wire.specs.declared.Setup.{Setup}
use Rattle.wire.specs.Packet as packet
use Rattle.wire.specs.Packet.{ids_of}
use Rattle.wire.specs.Head.{is9}
use Rattle.wire.specs.Type9 as type9
use Rattle.wire.specs.Type9.{is_s, segment_of}
use Rattle.stream_rooms.specs.Placing.{data_of}
use Rattle.streams.specs.Joining.{context_for}
use Rattle.reading.specs.Desk.{Desk, state_on}
use Rattle.flows.specs.Deliveries.{in_room, read, after, desk_after}
use Rattle.flows.specs.Fresh.{Fresh}

-- ---- Which packets were joined

-- the data of a type 9 packet are stored where it is held or delivers
abbrev pub is_stored : Said → Bool
is_stored held = true
is_stored (delivered context flow stream size) = true
is_stored (message context source letter mailbox size) = false
is_stored (refused number) = false

-- at an answer: they go into the room of context n, the one that the PDU uses
abbrev pub goes_into : Setup → Desk → List ℕ → Said → ℕ → Bool
goes_into setup d p says n = is_stored says && (is9 p && eqb n (context_for (state_on d) (segment_of (ids_of setup) p)))

-- of each context the packets whose data its room has, the first first
abbrev pub Parts : Type 0
Parts = ℕ → List (List ℕ)

-- with one more packet: a start or single begins anew
abbrev pub with_part : Setup → List ℕ → List (List ℕ) → List (List ℕ)
with_part setup p before = cond (is_s (ids_of setup) p) (p ∷ []) (before ++ (p ∷ []))

abbrev pub parts_with : Setup → Desk → List ℕ → Said → Parts → Parts
parts_with setup d p says parts n = cond (goes_into setup d p says n) (with_part setup p (parts n)) (parts n)

-- after packets, each read with what the one before left
abbrev pub parts_after : Setup → Desk → List (List ℕ) → Parts → Parts
parts_after setup d [] parts = parts
parts_after setup d (p ∷ ps) parts = parts_after setup (after d p) ps (parts_with setup d p (read d p).says parts)

-- from a desk on which no context had any: those of each context
abbrev pub joined_to : Setup → Desk → List (List ℕ) → Parts
joined_to setup d packets = parts_after setup d packets (λ (n : ℕ). [])

-- ---- The statement

-- a packet of that source, priority and cos, by its bytes
pub record HasFlow (ids : ℕ) (flow : Flow) (p : List ℕ) : Type 0 where
  pub source : packet.source ids p ≡ flow.source
  pub priority : packet.priority p ≡ flow.priority
  pub cos : type9.cos ids p ≡ flow.cos

-- these bytes are the data of the packets, one behind the other, and each of the packets has that source, priority and cos
pub record JoinedOf (setup : Setup) (flow : Flow) (bytes : List ℕ) (parts : List (List ℕ)) : Type 0 where
  pub flows : Each (HasFlow (ids_of setup) flow) parts
  pub data_of_lem : bytes ≡ joined (map (λ (p : List ℕ). data_of p (segment_of (ids_of setup) p)) parts)

abbrev pub DeliveredFlow : Type 0
DeliveredFlow =
    (setup : Setup) (d : Desk) (before : List (List ℕ)) (p : List ℕ) (context : ℕ) (flow : Flow) (stream size : ℕ)
    → Fresh setup d → Each AreBytes (before ++ (p ∷ []))
    -- p is read behind the others, and delivers
    → (read (desk_after d before) p).says ≡ delivered context flow stream size
    → JoinedOf setup flow (in_room setup.room (desk_after d (before ++ (p ∷ []))).stream_memory context size) (joined_to setup d (before ++ (p ∷ [])) context)

-- What holds of a sending, as statements (document 01, demands 2 and 3). Each is proved in proofs/; nothing here is part of a proof.
use Rattle.std.specs.Prelude.{ℕ, zero, suc, ◌≤◌, ◌<◌, ◌≡◌, List, [], ◌∷◌, length, take}
use Rattle.std.proofs.Math.Option.{none}
use Rattle.wire.specs.declared.Flow.{Flow}
use Rattle.answers.specs.Answers.{Said, held, delivered}
use Rattle.cutting.specs.Cutting.{packet_of}
use Rattle.flows.specs.OneFlow.{PDU}
use Rattle.wire.specs.declared.Setup.{Setup}
use Rattle.contexts.specs.State.{stream_contexts}
use Rattle.reading.specs.Desk.{Desk, state_on}
use Rattle.flows.specs.Deliveries.{Endpoint, read, after, deliveries, in_room, view}
use Rattle.flows.specs.Fresh.{Allowed, Fresh}
use Rattle.flows.specs.ByFlow.{ByFlow}
use Rattle.sending.specs.Sending.{Sent, packet_count, heading_for, FairPDU, Ranges, Sending, flows_of, packets, whole, FairlySent, Fair, FairAnyLoss}

-- A desk of that setup on which no flow is open, and from which on the laws between a flow and the endpoint hold.
pub record Begins (setup : Setup) (flows : List Flow) (b : Desk) : Type 1 where
  pub Ok : Desk → Type 0
  pub law : ByFlow setup flows Ok
  pub ok : Ok b
  pub own_R : (state_on b).setup.room ≡ setup.room
  pub closed : (flow : Flow) → view b flow ≡ none

-- a desk that was just set up begins, for at most sixteen flows; so for those of a sending
abbrev pub FreshBegins : Type 1
FreshBegins = (setup : Setup) (flows : List Flow) (b : Desk) → length flows ≤ stream_contexts → Fresh setup b → Begins setup flows b

abbrev pub SendingBegins : Type 1
SendingBegins = (setup : Setup) (s : Sending) (b : Desk) → FairlySent setup s → Fresh setup b → Begins setup (flows_of s) b

-- ---- Demand 3

-- what the endpoint delivers is exactly what was sent whole, in the order of the last packets
abbrev pub DeliveredIsWhole : Type 1
DeliveredIsWhole =
    (setup : Setup) (s : Sending) (b : Desk) → Allowed setup → Fair setup s → Begins setup (flows_of s) b
    → deliveries b (packets setup s) ≡ whole setup s

-- the same however many packets of a PDU are lost
abbrev pub DeliveredIsWholeAnyLoss : Type 1
DeliveredIsWholeAnyLoss =
    (setup : Setup) (s : Sending) (b : Desk) → Allowed setup → FairAnyLoss setup s → Begins setup (flows_of s) b
    → deliveries b (packets setup s) ≡ whole setup s

-- the sending up to its n-th turn
abbrev pub first_turns : ℕ → Sending → Sending
first_turns n s = record { flows = s.flows; turns = take n s.turns }

-- the same at every moment
abbrev pub DeliveredAtEveryTurn : Type 1
DeliveredAtEveryTurn =
    (setup : Setup) (s : Sending) (b : Desk) → Allowed setup → FairAnyLoss setup s → Begins setup (flows_of s) b
    → (n : ℕ) → deliveries b (packets setup (first_turns n s)) ≡ whole setup (first_turns n s)

-- two sendings that leave the same packets agree on every whole PDU
abbrev pub SamePacketsSameWhole : Type 1
SamePacketsSameWhole =
    (setup : Setup) (s s' : Sending) (b : Desk) → Allowed setup
    → FairAnyLoss setup s → Begins setup (flows_of s) b
    → FairAnyLoss setup s' → Begins setup (flows_of s') b
    → packets setup s ≡ packets setup s' → whole setup s ≡ whole setup s'

-- ---- Demand 2: a PDU that is cut and read back

-- packet k of a PDU of that flow
abbrev pub packet_at : Setup → Flow → Sent → ℕ → List ℕ
packet_at setup flow s k = packet_of (heading_for setup flow s) setup.mtu s.pdu.bytes k

-- the desk after the first k packets, and what packet k gets there
abbrev pub desk_at : Endpoint → Setup → Flow → Sent → Desk → ℕ → Desk
desk_at e setup flow s d zero = d
desk_at e setup flow s d (suc k) = (e (desk_at e setup flow s d k) (packet_at setup flow s k)).desk

abbrev pub says_at : Endpoint → Setup → Flow → Sent → Desk → ℕ → Said
says_at e setup flow s d k = (e (desk_at e setup flow s d k) (packet_at setup flow s k)).says

-- delivered from some context: flow, streamID and length, and the room then holds exactly the PDU's bytes
pub record HandsBack (R : ℕ) (flow : Flow) (p : PDU) (b : Desk) (says : Said) : Type 0 where
  pub context : ℕ
  pub answer : says ≡ delivered context flow p.stream (length p.bytes)
  pub holds : in_room R b.stream_memory context (length p.bytes) ≡ p.bytes

-- the length in an answer is that of the bytes that lie in its room: it reaches past no memory, whatever the desk
abbrev pub LengthIsMeasured : Type 0
LengthIsMeasured =
    (b : Desk) (p : List ℕ) (context : ℕ) (flow : Flow) (stream size : ℕ) → (read b p).says ≡ delivered context flow stream size
    → length (in_room (state_on b).setup.room (after b p).stream_memory context size) ≡ size

-- one PDU alone, read by an endpoint: every packet but the last is held, and the last delivers the PDU
pub record ReadsBack (e : Endpoint) (setup : Setup) (flow : Flow) (s : Sent) (d : Desk) : Type 0 where
  pub each : (k : ℕ) → suc k < packet_count setup.mtu s → says_at e setup flow s d k ≡ held
  pub last : (k : ℕ) → suc k ≡ packet_count setup.mtu s → HandsBack setup.room flow s.pdu (desk_at e setup flow s d (suc k)) (says_at e setup flow s d k)

abbrev pub ReadBack : Type 1
ReadBack =
    (setup : Setup) (flow : Flow) (s : Sent) (b : Desk) → Ranges setup flow → FairPDU setup.room s → Begins setup (flow ∷ []) b
    → ReadsBack read setup flow s b

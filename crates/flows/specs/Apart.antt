-- Flows are apart: what a flow's packets are answered in any mixture is what they are answered alone.
use Rattle.std.specs.Prelude.{ℕ, ◌≤◌, ◌≡◌, List, [], ◌∷◌, Bool, true, false, cond, length}
use Rattle.std.proofs.Math.Option.{Option, none}
use Rattle.lists.specs.Bytes.{AreBytes}
use Rattle.lists.specs.Each.{Each}
use Rattle.answers.specs.Answers as answers
use Rattle.wire.specs.declared.Flow.{Flow}
use Rattle.wire.specs.Parsed.{Parsed}
use Rattle.wire.specs.Parsed.{Refused, Stream, Message}
use Rattle.wire.specs.Type9.{same_flow, segment_of}
use Rattle.wire.specs.Parsed.{parsed}
use Rattle.wire.specs.declared.Setup.{Setup}
use Rattle.wire.specs.Packet.{ids_of}
use Rattle.contexts.specs.State.{stream_contexts}
use Rattle.reading.specs.Desk.{Desk}
use Rattle.stream_rooms.specs.Placing.{data_of}
use Rattle.flows.specs.OneFlow.{PDU, pdu, Told, held, delivered, refused, flow_step}
use Rattle.flows.specs.Deliveries.{Delivery, delivery, in_room, read, after}
use Rattle.flows.specs.Fresh.{Fresh}
use Rattle.flows.specs.ByFlow.{among}

-- ---- what is answered, the context number aside

pub data Heard : Type 0 where
  holds : Heard
  -- a PDU, with its flow and its bytes
  delivers : Delivery → Heard
  refuses : ℕ → Heard
  -- an answer that no type 9 packet gets
  other : Heard

-- and whether an open PDU was given up
pub record FlowAnswer : Type 0 where
  pub heard : Heard
  pub dropped : Bool

abbrev pub flow_answer : Heard → Bool → FlowAnswer
flow_answer heard dropped = record { heard = heard; dropped = dropped }

-- by the endpoint: a delivered PDU's bytes are those that its room holds at that moment
abbrev pub heard_of : ℕ → List ℕ → answers.Said → Heard
heard_of room memory answers.held = holds
heard_of room memory (answers.delivered context flow stream size) = delivers (delivery flow (pdu stream (in_room room memory context size)))
heard_of room memory (answers.message context source letter mailbox size) = other
heard_of room memory (answers.refused number) = refuses number

-- by the one-flow endpoint
abbrev pub heard_alone : Flow → Told → Heard
heard_alone flow held = holds
heard_alone flow (delivered p) = delivers (delivery flow p)
heard_alone flow (refused number) = refuses number

-- ---- a flow's packets

-- a type 9 packet of that flow which rows 1 to 5 pass
abbrev pub is_of : Flow → Parsed → Bool
is_of flow (Refused number) = false
is_of flow (Stream g) = same_flow g.flow flow
is_of flow (Message m) = false

abbrev pub packets_of : Setup → Flow → List (List ℕ) → List (List ℕ)
packets_of setup flow [] = []
packets_of setup flow (p ∷ ps) = cond (is_of flow (parsed setup p)) (p ∷ packets_of setup flow ps) (packets_of setup flow ps)

-- what the endpoint answers to that flow's packets, in a run over all packets
abbrev pub answers_to : Setup → Flow → Desk → List (List ℕ) → List FlowAnswer
answers_to setup flow d [] = []
answers_to setup flow d (p ∷ ps) =
    cond (is_of flow (parsed setup p))
    (flow_answer (heard_of setup.room (after d p).stream_memory (read d p).says) (read d p).dropped ∷ answers_to setup flow (after d p) ps)
    (answers_to setup flow (after d p) ps)

-- what the one-flow endpoint answers to a flow's packets, where `before` is what it has so far
abbrev pub alone : Setup → Flow → Option PDU → List (List ℕ) → List FlowAnswer
alone setup flow before [] = []
alone setup flow before (p ∷ ps) =
    let g = segment_of (ids_of setup) p in
    let o = flow_step setup before g (data_of p g) in
    flow_answer (heard_alone flow o.told) o.dropped ∷ alone setup flow o.next ps

-- ---- the statements

-- a packet of type 9 that rows 1 to 5 pass has one of these flows
abbrev pub flow_among : List Flow → Parsed → Bool
flow_among flows (Refused number) = true
flow_among flows (Stream g) = among g.flow flows
flow_among flows (Message m) = true

abbrev pub AmongFlows : Setup → List Flow → List (List ℕ) → Type 0
AmongFlows setup flows = Each (λ (p : List ℕ). flow_among flows (parsed setup p) ≡ true)

-- a fresh desk, and any packets at all of which those of type 9 have at most sixteen flows
pub record AtMostSixteenFlows (setup : Setup) (d : Desk) (flows : List Flow) (packets : List (List ℕ)) : Type 0 where
  pub fresh : Fresh setup d
  pub few : length flows ≤ stream_contexts
  pub bytes : Each AreBytes packets
  pub occur : AmongFlows setup flows packets

-- each flow is answered as if its packets came alone
abbrev pub FlowsApart : Type 0
FlowsApart =
    (setup : Setup) (d : Desk) (flows : List Flow) (packets : List (List ℕ)) → AtMostSixteenFlows setup d flows packets
    → (flow : Flow) → answers_to setup flow d packets ≡ alone setup flow none (packets_of setup flow packets)

-- so two runs in which a flow has the same packets answer them the same, whatever else came, and whatever stood in the memories
abbrev pub SamePacketsSameAnswers : Type 0
SamePacketsSameAnswers =
    (setup : Setup) (d d' : Desk) (flows flows' : List Flow) (packets packets' : List (List ℕ))
    → AtMostSixteenFlows setup d flows packets → AtMostSixteenFlows setup d' flows' packets'
    → (flow : Flow) → packets_of setup flow packets ≡ packets_of setup flow packets'
    → answers_to setup flow d packets ≡ answers_to setup flow d' packets'

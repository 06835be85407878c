-- What boards send, what is left of it on the backplane, and which PDUs are whole (document 01, demand 3).
use Rattle.std.specs.Prelude.{ℕ, zero, suc, ◌+◌, ◌^◌, ◌≤◌, ◌<◌, ◌≡◌, Bool, true, false, cond, ◌||◌, ◌&&◌, length, eqb}
use mathlib.Core.List.{List, [], ◌∷◌, ◌++◌, map, tail}
use Rattle.std.proofs.Math.Option.{Option, none, some}
use Rattle.lists.specs.Bytes.{AreBytes}
use Rattle.lists.specs.Each.{Each}
use Rattle.wire.specs.declared.Flow.{Flow}
use Rattle.wire.specs.Segment.{Segment}
use Rattle.wire.specs.Parsed.{Stream}
use Rattle.wire.specs.Type9.{same_flow}
use Rattle.wire.specs.Parsed.{parsed}
use Rattle.wire.specs.declared.Setup.{Setup}
use Rattle.wire.specs.Packet.{ids_of}
use Rattle.contexts.specs.State.{stream_contexts}
use Rattle.cutting.specs.declared.Heading.{Heading}
use Rattle.cutting.specs.Cutting.{segment_count, is_final, packet_of}
use Rattle.flows.specs.OneFlow.{PDU}
use Rattle.flows.specs.Deliveries.{Delivery, delivery}
use Rattle.flows.specs.Fresh.{Allowed}

-- ---- What one flow sends

-- a PDU, and the numbers (from 0) of its packets that are lost
pub record Sent : Type 0 where
  pub pdu : PDU
  pub lost : List ℕ

-- whether a number is in a list
abbrev pub has : ℕ → List ℕ → Bool
has k [] = false
has k (x ∷ xs) = eqb k x || has k xs

abbrev pub is_lost : Sent → ℕ → Bool
is_lost s k = has k s.lost

-- how many packets it makes
abbrev pub packet_count : ℕ → Sent → ℕ
packet_count mtu s = segment_count mtu (length s.pdu.bytes)

-- how many of n packets from number k on are lost
abbrev pub losses_from : List ℕ → (k n : ℕ) → ℕ
losses_from lost k zero = 0
losses_from lost k (suc n) = cond (has k lost) 1 0 + losses_from lost (suc k) n

-- how many of its packets are lost; whole: none is
abbrev pub losses : ℕ → Sent → ℕ
losses mtu s = losses_from s.lost 0 (packet_count mtu s)

abbrev pub is_whole : ℕ → Sent → Bool
is_whole mtu s = eqb (losses mtu s) 0

-- a packet as its board puts it on: its bytes, whether it is lost, and the PDU that is whole with it, if one is
pub record Put : Type 0 where
  pub packet : List ℕ
  pub lost : Bool
  pub whole : Option PDU

-- the same for all packets of a PDU; source, priority and cos are the flow's
abbrev pub heading_for : Setup → Flow → Sent → Heading
heading_for setup flow s = record {
  destination = setup.device;
  source = flow.source;
  cos = flow.cos;
  stream = s.pdu.stream;
  priority = flow.priority;
  narrow = setup.narrow;
}

-- packet k of a PDU. The PDU is whole with its last packet, if no packet is lost
unfoldable pub put_of : Setup → Flow → Sent → ℕ → Put
put_of setup flow s k = record {
  packet = packet_of (heading_for setup flow s) setup.mtu s.pdu.bytes k;
  lost = is_lost s k;
  whole = cond (is_final setup.mtu s.pdu.bytes k && is_whole setup.mtu s) (some s.pdu) none;
}

-- n packets from number k on
abbrev pub puts_from : Setup → Flow → Sent → (k n : ℕ) → List Put
puts_from setup flow s k zero = []
puts_from setup flow s k (suc n) = put_of setup flow s k ∷ puts_from setup flow s (suc k) n

-- all that a flow puts on, in order
abbrev pub flow_puts : Setup → Flow → List Sent → List Put
flow_puts setup flow [] = []
flow_puts setup flow (s ∷ ss) = puts_from setup flow s 0 (packet_count setup.mtu s) ++ flow_puts setup flow ss

-- ---- A sending: what each flow sends, and whose turn it is

pub record FlowSent : Type 0 where
  pub flow : Flow
  pub sent : List Sent

-- a flow puts its next packet on (where it has none left, the turn passes); or some board sends any other packet
pub data Turn : Type 0 where
  next : Flow → Turn
  between : List ℕ → Turn

pub record Sending : Type 0 where
  pub flows : List FlowSent
  pub turns : List Turn

-- what a flow has to send: its first entry; nothing where it has none
abbrev pub sent_on : List FlowSent → Flow → List Sent
sent_on [] flow = []
sent_on (x ∷ xs) flow = cond (same_flow flow x.flow) x.sent (sent_on xs flow)

abbrev pub flows_of : Sending → List Flow
flows_of s = map (λ (x : FlowSent). x.flow) s.flows

-- ---- What happens on the backplane: an event for each turn, none where a flow has no packet left

-- a flow puts a packet on; or another packet comes
pub data Event : Type 0 where
  put : Flow → Put → Event
  came : List ℕ → Event

abbrev pub next_event : Flow → List Put → List Event
next_event flow [] = []
next_event flow (x ∷ xs) = put flow x ∷ []

-- the queues after a flow's turn
abbrev pub advance : (Flow → List Put) → Flow → Flow → List Put
advance queue flow other = cond (same_flow other flow) (tail (queue other)) (queue other)

abbrev pub events : (Flow → List Put) → List Turn → List Event
events queue [] = []
events queue (next flow ∷ ts) = next_event flow (queue flow) ++ events (advance queue flow) ts
events queue (between p ∷ ts) = came p ∷ events queue ts

abbrev pub queues : Setup → Sending → Flow → List Put
queues setup s flow = flow_puts setup flow (sent_on s.flows flow)

-- ---- Two readings of it: the packets that are left, and the PDUs that are whole

abbrev pub packets_left : List Event → List (List ℕ)
packets_left [] = []
packets_left (put flow x ∷ es) = cond x.lost (packets_left es) (x.packet ∷ packets_left es)
packets_left (came p ∷ es) = p ∷ packets_left es

abbrev pub tell : Flow → Option PDU → List Delivery → List Delivery
tell flow none ds = ds
tell flow (some p) ds = delivery flow p ∷ ds

abbrev pub wholes : List Event → List Delivery
wholes [] = []
wholes (put flow x ∷ es) = tell flow x.whole (wholes es)
wholes (came p ∷ es) = wholes es

-- what a sending leaves on the backplane
abbrev pub packets : Setup → Sending → List (List ℕ)
packets setup s = packets_left (events (queues setup s) s.turns)

-- its whole PDUs, in the order of their last packets
abbrev pub whole : Setup → Sending → List Delivery
whole setup s = wholes (events (queues setup s) s.turns)

-- ---- The premises

-- what all PDUs of a flow share is in its range
pub record Ranges (setup : Setup) (flow : Flow) : Type 0 where
  pub allowed : Allowed setup
  pub source : flow.source < 256 ^ ids_of setup
  pub priority : flow.priority ≤ 3
  pub cos : flow.cos < 256

-- a PDU of 1 to R bytes
pub record FairPDU (R : ℕ) (s : Sent) : Type 0 where
  pub stream : s.pdu.stream < 65536
  pub bytes : AreBytes s.pdu.bytes
  pub some_byte : 1 ≤ length s.pdu.bytes
  pub fits : length s.pdu.bytes ≤ R

pub record FairFlow (setup : Setup) (x : FlowSent) : Type 0 where
  pub source : x.flow.source < 256 ^ ids_of setup
  pub priority : x.flow.priority ≤ 3
  pub cos : x.flow.cos < 256
  pub PDUs : Each (FairPDU setup.room) x.sent

-- any other packet is made of bytes, and is no type 9 segment for us: a message, or one that rows 1 to 5 refuse
abbrev pub FairTurn : Setup → Turn → Type 0
FairTurn setup (next flow) = Unit {0}
FairTurn setup (between p) = ((g : Segment) → parsed setup p ≡ Stream g → ⊥) × AreBytes p

-- what is sent. That a flow sends one PDU at a time and in order, cut by the rules and addressed to the endpoint, is how `packets` is made
pub record FairlySent (setup : Setup) (s : Sending) : Type 0 where
  -- on at most sixteen flows
  pub sixteen : length s.flows ≤ stream_contexts
  -- whole PDUs, each no longer than a room
  pub flows : Each (FairFlow setup) s.flows
  -- flows mixed at will, message packets between, and any others that are no segment for us
  pub turns : Each (FairTurn setup) s.turns

-- no PDU loses more than one packet
abbrev pub OneLossEach : Setup → Sending → Type 0
OneLossEach setup s = Each (λ (x : FlowSent). Each (λ (y : Sent). losses setup.mtu y ≤ 1) x.sent) s.flows

-- of two PDUs next to each other at least one is whole
abbrev pub OneOfTwoWhole : ℕ → List Sent → Type 0
OneOfTwoWhole mtu [] = Unit {0}
OneOfTwoWhole mtu (s ∷ []) = Unit {0}
OneOfTwoWhole mtu (s ∷ s' ∷ ss) = ((is_whole mtu s || is_whole mtu s') ≡ true) × OneOfTwoWhole mtu (s' ∷ ss)

-- no two neighbouring PDUs on one flow both lose one
abbrev pub NoNeighboursLose : Setup → Sending → Type 0
NoNeighboursLose setup s = Each (λ (x : FlowSent). OneOfTwoWhole setup.mtu x.sent) s.flows

-- the demand's premises about what is sent and lost
pub record Fair (setup : Setup) (s : Sending) : Type 0 where
  pub sent_fairly : FairlySent setup s
  pub one_loss : OneLossEach setup s
  pub neighbours : NoNeighboursLose setup s

-- the same, and no word of how many packets of a PDU are lost
pub record FairAnyLoss (setup : Setup) (s : Sending) : Type 0 where
  pub sent_fairly : FairlySent setup s
  pub neighbours : NoNeighboursLose setup s

-- THE JOINT: what demand 3 does not say. Two PDUs next to each other on one flow that both lose a packet (document 01, example 9).
use Rattle.std.specs.Prelude.{ℕ, ◌≡◌, ◌↔◌, List, [], ◌∷◌, ◌++◌, Bool, true, cond, ◌&&◌, length, take, drop, replicate, eqb, leb}
use Rattle.std.proofs.Math.Option.{none}
use Rattle.wire.specs.declared.Flow.{Flow}
use Rattle.flows.specs.OneFlow.{PDU, pdu}
use Rattle.wire.specs.declared.Setup.{Setup}
use Rattle.reading.specs.Desk.{Desk}
use Rattle.flows.specs.Deliveries.{delivery, deliveries}
use Rattle.sending.specs.Sending.{Sent, is_lost, packet_count, losses, flow_puts, next, Sending, packets, whole, Ranges, FairPDU, FairlySent, OneLossEach, NoNeighboursLose, Fair}
use Rattle.sending.specs.OneFlow.{flow_deliveries, arriving}
use Rattle.sending.specs.OfSendings.{Begins}

-- the first has exactly two packets and loses its end; the second, of two or more, loses its start
unfoldable pub is_joint : ℕ → Sent → Sent → Bool
is_joint mtu first second = (eqb (packet_count mtu first) 2 && is_lost first 1) && (leb 2 (packet_count mtu second) && is_lost second 0)

-- the first's streamID, its first MTU bytes, and the second's bytes from MTU on. Nobody sent it, where the two differ in the bytes from MTU on (else it is
-- the first) and also in streamID or in the bytes before MTU (else it is the second)
abbrev pub joint_pdu : ℕ → Sent → Sent → PDU
joint_pdu mtu first second = pdu first.pdu.stream (take mtu first.pdu.bytes ++ drop mtu second.pdu.bytes)

-- what is left of the two
abbrev pub pair_packets : Setup → Flow → Sent → Sent → List (List ℕ)
pair_packets setup flow first second = arriving (flow_puts setup flow (first ∷ second ∷ []))

-- two PDUs of 1 to R bytes on one flow, each of which loses exactly one packet
pub record Pair (setup : Setup) (flow : Flow) (first second : Sent) : Type 0 where
  pub ranges : Ranges setup flow
  pub first_fair : FairPDU setup.room first
  pub second_fair : FairPDU setup.room second
  pub first_loses : losses setup.mtu first ≡ 1
  pub second_loses : losses setup.mtu second ≡ 1

-- from a closed flow, nothing is delivered of the two, but for the joint, which delivers exactly that PDU
abbrev pub JointExactly : Type 0
JointExactly =
    (setup : Setup) (flow : Flow) (first second : Sent) → Pair setup flow first second
    → flow_deliveries setup none (pair_packets setup flow first second) ≡ cond (is_joint setup.mtu first second) (joint_pdu setup.mtu first second ∷ []) []

-- so something is delivered exactly if the two are a joint
abbrev pub JointOnly : Type 0
JointOnly =
    (setup : Setup) (flow : Flow) (first second : Sent) → Pair setup flow first second
    → (flow_deliveries setup none (pair_packets setup flow first second) ≡ [] → ⊥) ↔ (is_joint setup.mtu first second ≡ true)

-- and what it delivers has the second's length
abbrev pub JointLength : Type 0
JointLength =
    (setup : Setup) (flow : Flow) (first second : Sent) → Pair setup flow first second
    → is_joint setup.mtu first second ≡ true → length (joint_pdu setup.mtu first second).bytes ≡ length second.pdu.bytes

-- it is neither of the two, where they differ in the bytes from MTU on and also in streamID or in the bytes before MTU: whatever their lengths
abbrev pub JointUnsent : Type 0
JointUnsent =
    (mtu : ℕ) (first second : Sent)
    → (drop mtu first.pdu.bytes ≡ drop mtu second.pdu.bytes → ⊥)
    → ((first.pdu.stream ≡ second.pdu.stream) × (take mtu first.pdu.bytes ≡ take mtu second.pdu.bytes) → ⊥)
    → (joint_pdu mtu first second ≡ first.pdu → ⊥) × (joint_pdu mtu first second ≡ second.pdu → ⊥)

-- the same of the endpoint, from a desk on which no flow is open
abbrev pub JointDelivered : Type 1
JointDelivered =
    (setup : Setup) (flow : Flow) (first second : Sent) (b : Desk) → Pair setup flow first second → Begins setup (flow ∷ []) b
    → deliveries b (pair_packets setup flow first second) ≡ cond (is_joint setup.mtu first second) (delivery flow (joint_pdu setup.mtu first second) ∷ []) []

-- NO RECEIVER CAN TELL: two sendings leave the packets of a joint. In the one the two PDUs are sent, and nothing is whole; in the other that PDU is
-- sent, alone, without loss: it is fair, and the PDU is whole. So the premise of demand 3 that no two neighbours both lose a packet cannot be left out.
abbrev pub joint_sent : ℕ → Sent → Sent → Sent
joint_sent mtu first second = record { pdu = joint_pdu mtu first second; lost = [] }

-- one flow sends these, with a turn for each packet
abbrev pub in_turn : Setup → Flow → List Sent → Sending
in_turn setup flow sent = record { flows = record { flow = flow; sent = sent } ∷ []; turns = replicate (length (flow_puts setup flow sent)) (next flow) }

pub record Untold (setup : Setup) (flow : Flow) (first second : Sent) : Type 0 where
  -- the two: of demand 3's premises this sending breaks that of neighbours, and no other
  pub two_sent_fairly : FairlySent setup (in_turn setup flow (first ∷ second ∷ []))
  pub two_one_loss : OneLossEach setup (in_turn setup flow (first ∷ second ∷ []))
  pub two_neighbours : NoNeighboursLose setup (in_turn setup flow (first ∷ second ∷ [])) → ⊥
  pub two_leave : packets setup (in_turn setup flow (first ∷ second ∷ [])) ≡ pair_packets setup flow first second
  pub two_whole : whole setup (in_turn setup flow (first ∷ second ∷ [])) ≡ []
  -- the one
  pub fair : Fair setup (in_turn setup flow (joint_sent setup.mtu first second ∷ []))
  pub leaves : packets setup (in_turn setup flow (joint_sent setup.mtu first second ∷ [])) ≡ pair_packets setup flow first second
  pub is_whole_lem : whole setup (in_turn setup flow (joint_sent setup.mtu first second ∷ [])) ≡ delivery flow (joint_pdu setup.mtu first second) ∷ []

abbrev pub JointUntold : Type 0
JointUntold =
    (setup : Setup) (flow : Flow) (first second : Sent) → Pair setup flow first second → is_joint setup.mtu first second ≡ true
    → Untold setup flow first second

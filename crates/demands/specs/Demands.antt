-- DEMANDS 2 AND 3 AND THE JOINT, of any endpoint. Ours meets all three; Impostors.antt shows that endpoints which cheat do not.
-- These are over the definitions; Demand2OfCalls and Demand3OfCalls (OfCalls.antt) are of the calls that people make.
use Rattle.std.specs.Prelude.{ℕ, zero, suc, ◌≤◌, ◌≡◌, List, [], ◌∷◌, cond, length, take}
use Rattle.answers.specs.Answers.{WriterSaid, wrote, write_refused}
use Rattle.wire.specs.declared.Flow.{Flow}
use Rattle.wire.specs.declared.Setup.{Setup}
use Rattle.reading.specs.Desk.{Desk}
use Rattle.cutting.specs.declared.Heading.{Heading}
use Rattle.writing.specs.Writer.{Wrote, writing}
use Rattle.flows.specs.Deliveries.{Endpoint, read, delivery, deliveries_by, deliveries}
use Rattle.flows.specs.Fresh.{Fresh}
use Rattle.sending.specs.Sending.{Sent, packet_count, heading_for, Sending, packets, whole, Ranges, FairPDU, Fair, FairAnyLoss}
use Rattle.sending.specs.OfSendings.{packet_at, ReadsBack, first_turns}
use Rattle.sending.specs.Joint.{Pair, is_joint, joint_pdu, pair_packets}

-- DEMAND 2. One PDU cut by the writer's definition, read from fresh, segments 0 to count-1 in order: held for each but the last, delivered
-- for the last with flow, streamID and length, and the room then holds exactly the PDU's bytes
abbrev pub Demand2Of : Endpoint → Type 0
Demand2Of e = (setup : Setup) (flow : Flow) (s : Sent) (d : Desk) → Fresh setup d → Ranges setup flow → FairPDU setup.room s → ReadsBack e setup flow s d

-- the same of a writer, ours or any other: what it says of segment k of a PDU, and leaves in the output
abbrev pub Writer : Type 0
Writer = (out : List ℕ) (h : Heading) (mtu : ℕ) (pdu : List ℕ) (k : ℕ) → Wrote

-- the packet that it says stands in the output; none where it refuses
abbrev pub stands_in : WriterSaid → List ℕ → List ℕ
stands_in (wrote size) out = take size out
stands_in (write_refused number) out = []

-- n packets of a PDU from number k on, each written into a buffer of its own
abbrev pub written_by : Writer → Setup → Flow → Sent → (outs : ℕ → List ℕ) → (k n : ℕ) → List (List ℕ)
written_by w setup flow s outs k zero = []
written_by w setup flow s outs k (suc n) =
    let x = w (outs k) (heading_for setup flow s) setup.mtu s.pdu.bytes k in
    stands_in x.says x.out ∷ written_by w setup flow s outs (suc k) n

-- what it writes into buffers that 16 allows, our endpoint reads back
abbrev pub Demand2OfWriter : Writer → Type 0
Demand2OfWriter w =
    (setup : Setup) (flow : Flow) (s : Sent) (d : Desk) (outs : ℕ → List ℕ) → Fresh setup d → Ranges setup flow → FairPDU setup.room s
    → ((k : ℕ) → length (packet_at setup flow s k) ≤ length (outs k))
    → deliveries d (written_by w setup flow s outs 0 (packet_count setup.mtu s)) ≡ delivery flow s.pdu ∷ []

-- DEMAND 3. Whatever packets a fair sending leaves, read from fresh they deliver exactly what was sent whole, in the order of the last packets
abbrev pub Demand3Of : Endpoint → Type 0
Demand3Of e = (setup : Setup) (d : Desk) (s : Sending) → Fresh setup d → Fair setup s → deliveries_by e d (packets setup s) ≡ whole setup s

-- THE JOINT, outside demand 3: of two neighbouring PDUs of one flow that each lose exactly one packet something is delivered exactly if the first
-- has exactly two packets and loses its end, and the second, of two or more, loses its start; and then exactly the PDU joined of the two
abbrev pub JointOf : Endpoint → Type 0
JointOf e =
    (setup : Setup) (d : Desk) (flow : Flow) (first second : Sent) → Fresh setup d → Pair setup flow first second
    → deliveries_by e d (pair_packets setup flow first second) ≡ cond (is_joint setup.mtu first second) (delivery flow (joint_pdu setup.mtu first second) ∷ []) []

pub record Meets (e : Endpoint) : Type 0 where
  pub demand2 : Demand2Of e
  pub demand3 : Demand3Of e
  pub joint : JointOf e

-- our endpoint meets them, and our writer demand 2
abbrev pub OursMeets : Type 0
OursMeets = Meets read

abbrev pub OurWriterMeets : Type 0
OurWriterMeets = Demand2OfWriter writing

-- stronger: however many packets of a PDU are lost; and at every moment, after any number of turns. Of the calls: Demand3AnyLoss (OfCalls.antt)
abbrev pub FreshDeliversWhole : Type 0
FreshDeliversWhole =
    (setup : Setup) (d : Desk) (s : Sending) → Fresh setup d → FairAnyLoss setup s
    → (n : ℕ) → deliveries d (packets setup (first_turns n s)) ≡ whole setup (first_turns n s)

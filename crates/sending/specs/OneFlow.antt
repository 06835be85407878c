-- One flow by itself, packet by packet, and what it delivers.
use Rattle.std.specs.Prelude.{ℕ, List, [], ◌∷◌, cond}
use Rattle.std.proofs.Math.Option.{Option, none, some}
use Rattle.wire.specs.Packet.{ids_of}
use Rattle.wire.specs.Type9.{segment_of}
use Rattle.stream_rooms.specs.Placing.{data_of}
use Rattle.wire.specs.declared.Setup.{Setup}
use Rattle.flows.specs.OneFlow.{PDU, Told, held, delivered, refused, FlowOutcome, flow_step}
use Rattle.sending.specs.Sending.{Put}

-- what the one-flow endpoint does at a packet
abbrev pub packet_step : Setup → Option PDU → List ℕ → FlowOutcome
packet_step setup before p = flow_step setup before (segment_of (ids_of setup) p) (data_of p (segment_of (ids_of setup) p))

-- the PDU that an answer delivers, if one
abbrev pub delivered_pdu : Told → Option PDU
delivered_pdu held = none
delivered_pdu (delivered p) = some p
delivered_pdu (refused number) = none

-- in front of others
abbrev pub also : Option PDU → List PDU → List PDU
also none ps = ps
also (some p) ps = p ∷ ps

-- what it delivers over packets, each with what the one before left
abbrev pub flow_deliveries : Setup → Option PDU → List (List ℕ) → List PDU
flow_deliveries setup before [] = []
flow_deliveries setup before (p ∷ ps) = also (delivered_pdu (packet_step setup before p).told) (flow_deliveries setup (packet_step setup before p).next ps)

-- those that are not lost
abbrev pub arriving : List Put → List (List ℕ)
arriving [] = []
arriving (x ∷ xs) = cond x.lost (arriving xs) (x.packet ∷ arriving xs)

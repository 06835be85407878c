-- Packet after packet at one desk: each is read with what the call before left; and what is delivered.
use Rattle.std.specs.Prelude.{ℕ, ◌*◌, List, [], ◌∷◌, ◌++◌, cond, take, drop, ltb}
use Rattle.std.proofs.Math.Option.{Option, none, some}
use Rattle.answers.specs.Answers as answers
use Rattle.wire.specs.declared.Flow.{Flow}
use Rattle.contexts.specs.State.{State, stream_in, flow_context, stream_contexts}
use Rattle.reading.specs.Desk.{Desk, state_on}
use Rattle.reading.specs.Table.{lent}
use Rattle.reading.specs.Read.{Settled, reading}
use Rattle.flows.specs.OneFlow.{PDU, pdu}

-- an endpoint, ours or any other: what it answers and leaves at a desk and a packet
abbrev pub Endpoint : Type 0
Endpoint = Desk → List ℕ → Settled

-- ours
abbrev pub read : Endpoint
read d packet = reading (lent d packet)

-- the desk as reading leaves it
abbrev pub after : Desk → List ℕ → Desk
after d packet = (read d packet).desk

-- the desk after packets
abbrev pub desk_after : Desk → List (List ℕ) → Desk
desk_after d [] = d
desk_after d (p ∷ ps) = desk_after (after d p) ps

-- the first n bytes of room i, where a room has so many bytes
abbrev pub in_room : ℕ → List ℕ → ℕ → ℕ → List ℕ
in_room room memory i n = take n (drop (i * room) memory)

-- a delivered PDU with its flow and its bytes
pub record Delivery : Type 0 where
  pub flow : Flow
  pub pdu : PDU

abbrev pub delivery : Flow → PDU → Delivery
delivery flow p = record { flow = flow; pdu = p }

-- the PDU that an answer delivers, if one: its bytes are those that its room in the stream memory then holds
abbrev pub delivered_by : ℕ → List ℕ → answers.Said → List Delivery
delivered_by room memory (answers.delivered context flow stream size) =
    delivery flow (pdu stream (in_room room memory context size)) ∷ []
delivered_by room memory answers.held = []
delivered_by room memory (answers.message context source letter mailbox size) = []
delivered_by room memory (answers.refused number) = []

-- of what a call says and leaves
abbrev pub delivered_on : Desk → answers.Said → List Delivery
delivered_on d says = delivered_by (state_on d).setup.room d.stream_memory says

-- what an endpoint delivers over packets
abbrev pub deliveries_by : Endpoint → Desk → List (List ℕ) → List Delivery
deliveries_by e d [] = []
deliveries_by e d (p ∷ ps) = delivered_on (e d p).desk (e d p).says ++ deliveries_by e (e d p).desk ps

-- what ours does
abbrev pub deliveries : Desk → List (List ℕ) → List Delivery
deliveries d ps = deliveries_by read d ps

-- what a flow has on the desk: closed (none), or the streamID and the bytes so far
abbrev pub view_of : State → List ℕ → Flow → Option PDU
view_of s memory flow =
    cond (ltb (flow_context s flow) stream_contexts)
    (some (pdu (stream_in s (flow_context s flow)).stream (in_room s.setup.room memory (flow_context s flow) (stream_in s (flow_context s flow)).held)))
    none

unfoldable pub view : Desk → Flow → Option PDU
view d flow = view_of (state_on d) d.stream_memory flow

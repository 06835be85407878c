-- What a sending's words mean, for a reader who doubts them: the packets of a flow stand on the backplane in the flow's order,
-- and of a flow that has put all its packets on, the whole PDUs are exactly those that lost nothing, in order.
use Rattle.std.specs.Prelude.{ℕ, ◌≡◌, List, [], ◌∷◌, ◌++◌, false, cond}
use Rattle.wire.specs.declared.Flow.{Flow}
use Rattle.wire.specs.Type9.{same_flow}
use Rattle.sizes.specs.Sizes.{bad_mtu}
use Rattle.wire.specs.declared.Setup.{Setup}
use Rattle.flows.specs.OneFlow.{PDU}
use Rattle.flows.specs.Deliveries.{Delivery}
use Rattle.sending.specs.Sending.{Sent, is_whole, Put, Turn, next, between, Sending, sent_on, Event, put, came, advance, events, queues, whole, FairlySent}

-- what a flow has put on, in order; and what it still has to put on after those turns
abbrev pub put_by : Flow → List Event → List Put
put_by flow [] = []
put_by flow (put turn x ∷ es) = cond (same_flow flow turn) (x ∷ put_by flow es) (put_by flow es)
put_by flow (came p ∷ es) = put_by flow es

abbrev pub to_come : (Flow → List Put) → List Turn → Flow → List Put
to_come queue [] flow = queue flow
to_come queue (next turn ∷ ts) flow = to_come (advance queue turn) ts flow
to_come queue (between p ∷ ts) flow = to_come queue ts flow

-- those that are on it, and then those still to come, are all
abbrev pub InOrder : Type 0
InOrder =
    (setup : Setup) (s : Sending) (flow : Flow)
    → put_by flow (events (queues setup s) s.turns) ++ to_come (queues setup s) s.turns flow ≡ queues setup s flow

-- the PDUs of a flow that lost nothing; and those of a flow among deliveries
abbrev pub intact : ℕ → List Sent → List PDU
intact mtu [] = []
intact mtu (s ∷ ss) = cond (is_whole mtu s) (s.pdu ∷ intact mtu ss) (intact mtu ss)

abbrev pub from_flow : Flow → List Delivery → List PDU
from_flow flow [] = []
from_flow flow (d ∷ ds) = cond (same_flow flow d.flow) (d.pdu ∷ from_flow flow ds) (from_flow flow ds)

abbrev pub WholeIsIntact : Type 0
WholeIsIntact =
    (setup : Setup) (s : Sending) (flow : Flow) → bad_mtu setup.mtu ≡ false → FairlySent setup s → to_come (queues setup s) s.turns flow ≡ []
    → from_flow flow (whole setup s) ≡ intact setup.mtu (sent_on s.flows flow)

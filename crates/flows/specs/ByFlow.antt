-- Each flow by itself: a packet changes its own flow as a one-flow endpoint would, no other flow, and any other packet none.
use Rattle.std.specs.Prelude.{ℕ, ◌≡◌, List, [], ◌∷◌, Bool, true, false}
use Rattle.lists.specs.Bytes.{AreBytes}
use Rattle.lists.specs.First.{any}
use Rattle.answers.specs.Answers as answers
use Rattle.wire.specs.declared.Flow.{Flow}
use Rattle.wire.specs.Segment.{Segment}
use Rattle.wire.specs.declared.MessageSegment.{MessageSegment}
use Rattle.wire.specs.Parsed.{Refused, Stream, Message}
use Rattle.wire.specs.Type9.{same_flow}
use Rattle.wire.specs.Parsed.{parsed}
use Rattle.stream_rooms.specs.Placing.{data_of}
use Rattle.wire.specs.declared.Setup.{Setup}
use Rattle.reading.specs.Desk.{Desk}
use Rattle.flows.specs.OneFlow.{Told, held, delivered, refused, flow_step}
use Rattle.flows.specs.Deliveries.{delivery, delivered_by, read, after, view}

-- the flow is one of these
abbrev pub among : Flow → List Flow → Bool
among flow flows = any (same_flow flow) flows

-- an answer of the endpoint is the one-flow endpoint's, context number aside
abbrev pub Tells : ℕ → List ℕ → Flow → answers.Said → Told → Type 0
Tells room memory flow says held = says ≡ answers.held
Tells room memory flow says (delivered p) = delivered_by room memory says ≡ delivery flow p ∷ []
Tells room memory flow says (refused number) = says ≡ answers.refused number

-- a type 9 packet that rows 1 to 5 pass, of flow g .flow
pub record OwnFlow (Ok : Desk → Type 0) (setup : Setup) (d : Desk) (p : List ℕ) (g : Segment) : Type 0 where
  pub ok : Ok (after d p)
  pub own : view (after d p) g.flow ≡ (flow_step setup (view d g.flow) g (data_of p g)).next
  pub others : (flow : Flow) → same_flow flow g.flow ≡ false → view (after d p) flow ≡ view d flow
  pub tells : Tells setup.room (after d p).stream_memory g.flow (read d p).says (flow_step setup (view d g.flow) g (data_of p g)).told
  pub drops : (read d p).dropped ≡ (flow_step setup (view d g.flow) g (data_of p g)).dropped

-- any other packet: a message, or one that rows 1 to 5 refuse
pub record NoFlow (Ok : Desk → Type 0) (setup : Setup) (d : Desk) (p : List ℕ) : Type 0 where
  pub ok : Ok (after d p)
  pub views : (flow : Flow) → view (after d p) flow ≡ view d flow
  pub tells : delivered_by setup.room (after d p).stream_memory (read d p).says ≡ []

-- the laws between a flow and the endpoint of that setup, where at most these flows occur
pub record ByFlow (setup : Setup) (flows : List Flow) (Ok : Desk → Type 0) : Type 0 where
  pub of_flow_lem : (d : Desk) (p : List ℕ) (g : Segment) → Ok d → AreBytes p → parsed setup p ≡ Stream g → among g.flow flows ≡ true → OwnFlow Ok setup d p g
  pub of_message_lem : (d : Desk) (p : List ℕ) (m : MessageSegment) → Ok d → AreBytes p → parsed setup p ≡ Message m → NoFlow Ok setup d p
  pub of_refused : (d : Desk) (p : List ℕ) (number : ℕ) → Ok d → AreBytes p → parsed setup p ≡ Refused number → NoFlow Ok setup d p

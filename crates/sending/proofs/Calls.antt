-- A call with a packet of a flow, by the one-flow endpoint; and a run of them.
use Prim.Native.Nat.{ℕ}
use mathlib.Core.Path.{◌≡◌, refl, ap, ◌∙◌, subst}
use mathlib.Core.List.{List, [], ◌∷◌, ◌++◌, map}
use mathlib.Core.Bool.{true, false}
use mathlib.Core.Option.{Option, none, some}
use Rattle.lists.specs.First.{any}
use Rattle.answers.specs.Answers as answers
use Rattle.wire.specs.declared.Flow.{Flow}
use Rattle.wire.specs.Packet.{ids_of}
use Rattle.wire.specs.Type9.{same_flow, segment_of}
use Rattle.wire.specs.declared.Setup.{Setup}
use Rattle.flows.specs.OneFlow.{PDU, Told, held, delivered, refused}
use Rattle.reading.specs.Desk.{Desk, state_on}
use Rattle.flows.specs.Deliveries.{deliveries, Delivery, delivery, delivered_by, read, after, view}
use Rattle.flows.specs.ByFlow.{among, Tells, OwnFlow, ByFlow}
use Rattle.lists.specs.Each.{Each}
use Rattle.sending.specs.Sending.{tell}
use Rattle.sending.specs.OneFlow.{packet_step, delivered_pdu, also, flow_deliveries}
use Rattle.wire.proofs.SameFlow.{same_refl}
use Rattle.sending.proofs.OneFlow.{Proper}

-- a flow is itself, so it is among itself
pub among_itself : (flow : Flow) → among flow (flow ∷ []) ≡ true
unfolding any
among_itself flow = rw (same_refl flow)

-- what an answer delivers
tells_delivers : (R : ℕ) (memory : List ℕ) (flow : Flow) (says : answers.Said) (told : Told) (ds : List Delivery) → Tells R memory flow says told
    → delivered_by R memory says ++ ds ≡ tell flow (delivered_pdu told) ds
tells_delivers R memory flow says held ds e = rw e
tells_delivers R memory flow says (delivered p) ds e = rw e
tells_delivers R memory flow says (refused number) ds e = rw e

-- the laws of a packet's own flow, at the flow's name
pub record Own (Ok : Desk → Type 0) (setup : Setup) (flow : Flow) (b : Desk) (p : List ℕ) : Type 0 where
  pub ok : Ok (after b p)
  pub own : view (after b p) flow ≡ (packet_step setup (view b flow) p).next
  pub others : (other : Flow) → same_flow other flow ≡ false → view (after b p) other ≡ view b other
  pub tells : Tells setup.room (after b p).stream_memory flow (read b p).says (packet_step setup (view b flow) p).told
  pub delivers : (ds : List Delivery)
      → delivered_by (state_on (after b p)).setup.room (after b p).stream_memory (read b p).says ++ ds ≡ tell flow (delivered_pdu (packet_step setup (view b flow) p).told) ds

module _ (setup : Setup) (flows : List Flow) (Ok : Desk → Type 0) (law : ByFlow setup flows Ok) (own_R : (b : Desk) → Ok b → (state_on b).setup.room ≡ setup.room)
    (flow : Flow) (known : among flow flows ≡ true) where
  pub by_own : (b : Desk) (p : List ℕ) → Ok b → Proper setup flow p → Own Ok setup flow b p
  by_own b p ok proper =
      let f : (segment_of (ids_of setup) p).flow ≡ flow = proper.of_flow_lem in
      let o : OwnFlow Ok setup b p (segment_of (ids_of setup) p) = law.of_flow_lem b p (segment_of (ids_of setup) p) ok proper.bytes proper.reads (ap (λ (y : Flow). among y flows) f ∙ known) in
      let t : Tells setup.room (after b p).stream_memory flow (read b p).says (packet_step setup (view b flow) p).told =
      subst (λ (y : Flow). Tells setup.room (after b p).stream_memory y (read b p).says (packet_step setup (view b y) p).told) f o.tells in
      record {
        ok = o.ok;
        own = subst (λ (y : Flow). view (after b p) y ≡ (packet_step setup (view b y) p).next) f o.own;
        others = λ other ne. o.others other (ap (same_flow other) f ∙ ne);
        tells = t;
        delivers = λ ds.
            ap (λ (r : ℕ). delivered_by r (after b p).stream_memory (read b p).says ++ ds) (own_R (after b p) o.ok)
            ∙ tells_delivers setup.room (after b p).stream_memory flow (read b p).says (packet_step setup (view b flow) p).told ds t;
      }

  -- a run over one flow's packets delivers what the one-flow endpoint does
  pub flow_alone : (ps : List (List ℕ)) (b : Desk) → Ok b → Each (Proper setup flow) ps → deliveries b ps ≡ map (delivery flow) (flow_deliveries setup (view b flow) ps)
  flow_alone [] b ok proper = refl
  flow_alone (p ∷ ps) b ok proper =
      let o = by_own b p ok proper.0 in
      o.delivers (deliveries (after b p) ps)
      ∙ ap (tell flow (delivered_pdu (packet_step setup (view b flow) p).told))
      (flow_alone ps (after b p) o.ok proper.1 ∙ ap (λ (v : Option PDU). map (delivery flow) (flow_deliveries setup v ps)) o.own)
      ∙ tell-also (delivered_pdu (packet_step setup (view b flow) p).told) (flow_deliveries setup (packet_step setup (view b flow) p).next ps)
    where
      tell-also : (w : Option PDU) (l : List PDU) → tell flow w (map (delivery flow) l) ≡ map (delivery flow) (also w l)
      tell-also none l = refl
      tell-also (some q) l = refl

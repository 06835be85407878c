-- Flows are apart: by the laws of ByFlow, packet by packet.
use Prim.Native.Nat.{ℕ}
use mathlib.Core.Path.{◌≡◌, refl, ap, ap₂, sym, ◌∙◌}
use mathlib.Core.Bool.{Bool, true, false}
use mathlib.Core.Option.{Option, none}
use mathlib.Core.List.{List, [], ◌∷◌}
use native.Mathlib.Omega.{arith}
use Rattle.lists.specs.Bytes.{AreBytes}
use Rattle.lists.specs.Each.{Each}
use Rattle.answers.specs.Answers as answers
use Rattle.wire.specs.declared.Flow.{Flow}
use Rattle.wire.specs.Segment.{Segment}
use Rattle.wire.specs.Parsed.{Parsed}
use Rattle.wire.specs.Parsed.{Refused, Stream, Message}
use Rattle.wire.specs.Type9.{same_flow, segment_of}
use Rattle.wire.specs.Parsed.{parsed}
use Rattle.stream_rooms.specs.Placing.{data_of}
use Rattle.reading.proofs.Packets.{stream_parsed}
use Rattle.flows.specs.OneFlow.{PDU, Told, held, delivered, refused, FlowOutcome, flow_step}
use Rattle.wire.specs.declared.Setup.{Setup}
use Rattle.wire.specs.Packet.{ids_of}
use Rattle.reading.specs.Desk.{Desk}
use Rattle.flows.specs.Deliveries.{read, after, view}
use Rattle.flows.specs.ByFlow.{Tells, OwnFlow, NoFlow, ByFlow}
use Rattle.flows.specs.Apart.{FlowAnswer, flow_answer, heard_of, heard_alone, is_of, packets_of, answers_to, alone, flow_among, AmongFlows, FlowsApart, SamePacketsSameAnswers}
use Rattle.wire.proofs.SameFlow.{same_true, same_false, ne_same}
use Rattle.flows.proofs.Fine.{Fine, fresh-fine, fresh-view}
use Rattle.flows.proofs.Machine.{by_flow}

-- an answer that tells what the one-flow endpoint tells is heard as that
heard_same : (room : ℕ) (memory : List ℕ) (flow : Flow) (says : answers.Said) (told : Told) → Tells room memory flow says told → heard_of room memory says ≡ heard_alone flow told
heard_same room memory flow says held e = ap (heard_of room memory) e
heard_same room memory flow says (refused number) e = ap (heard_of room memory) e
heard_same room memory flow answers.held (delivered p) e = cc
heard_same room memory flow (answers.delivered context other stream size) (delivered p) e = cc
heard_same room memory flow (answers.message context source letter mailbox size) (delivered p) e = cc
heard_same room memory flow (answers.refused number) (delivered p) e = cc

module _ (setup : Setup) (flows : List Flow) (Ok : Desk → Type 0) (law : ByFlow setup flows Ok) (flow : Flow) where
  -- what the endpoint answers to a packet
  abbrev given : Desk → List ℕ → FlowAnswer
  given b p = flow_answer (heard_of setup.room (after b p).stream_memory (read b p).says) (read b p).dropped

  -- the one-flow endpoint's outcome
  abbrev out : Option PDU → List ℕ → FlowOutcome
  out before p = flow_step setup before (segment_of (ids_of setup) p) (data_of p (segment_of (ids_of setup) p))

  abbrev Goal : Desk → List (List ℕ) → Type 0
  Goal b ps = answers_to setup flow b ps ≡ alone setup flow (view b flow) (packets_of setup flow ps)

  -- a packet of another flow, or of none
  skipped : (b : Desk) (p : List ℕ) (ps : List (List ℕ)) → is_of flow (parsed setup p) ≡ false → view (after b p) flow ≡ view b flow → Goal (after b p) ps → Goal b (p ∷ ps)
  skipped b p ps t v ih = rw t (ih ∙ ap (λ (x : Option PDU). alone setup flow x (packets_of setup flow ps)) v)

  -- a packet of this flow
  taken : (b : Desk) (p : List ℕ) (ps : List (List ℕ)) → is_of flow (parsed setup p) ≡ true
      → given b p ≡ flow_answer (heard_alone flow (out (view b flow) p).told) (out (view b flow) p).dropped
      → view (after b p) flow ≡ (out (view b flow) p).next → Goal (after b p) ps → Goal b (p ∷ ps)
  taken b p ps t a v ih = rw t (ap₂ (λ (x : FlowAnswer) (xs : List FlowAnswer). x ∷ xs) a (ih ∙ ap (λ (x : Option PDU). alone setup flow x (packets_of setup flow ps)) v))

  -- by what the packet is
  step : (b : Desk) (p : List ℕ) (ps : List (List ℕ)) → Ok b → AreBytes p → flow_among flows (parsed setup p) ≡ true → (Ok (after b p) → Goal (after b p) ps) → (x : Parsed)
      → parsed setup p ≡ x → Goal b (p ∷ ps)
  step b p ps ok bytes member ih (Refused number) e =
      let l : NoFlow Ok setup b p = law.of_refused b p number ok bytes e in
      skipped b p ps (ap (is_of flow) e) (l.views flow) (ih l.ok)
  step b p ps ok bytes member ih (Message m) e =
      let l : NoFlow Ok setup b p = law.of_message_lem b p m ok bytes e in
      skipped b p ps (ap (is_of flow) e) (l.views flow) (ih l.ok)
  step b p ps ok bytes member ih (Stream g) e = go (same_flow g.flow flow) refl
    where
      l : OwnFlow Ok setup b p g
      l = law.of_flow_lem b p g ok bytes e (ap (flow_among flows) (sym e) ∙ member)

      -- the one-flow endpoint's outcome by the segment
      by_segment : (q : Flow) → g.flow ≡ q → flow_step setup (view b g.flow) g (data_of p g) ≡ out (view b q) p
      by_segment q s = ap₂ (λ (x : Flow) (y : Segment). flow_step setup (view b x) y (data_of p y)) s (stream_parsed p setup g e).0

      go : (t : Bool) → same_flow g.flow flow ≡ t → Goal b (p ∷ ps)
      go true t =
          let s : g.flow ≡ flow = same_true g.flow flow t in
          let o : flow_step setup (view b g.flow) g (data_of p g) ≡ out (view b flow) p = by_segment flow s in
          let heard : heard_of setup.room (after b p).stream_memory (read b p).says ≡ heard_alone flow (out (view b flow) p).told =
          heard_same setup.room (after b p).stream_memory g.flow (read b p).says (flow_step setup (view b g.flow) g (data_of p g)).told l.tells ∙ ap₂
          (λ (x : Flow) (y : FlowOutcome). heard_alone x y.told) s o in
          taken b p ps (ap (is_of flow) e ∙ t) (ap₂ flow_answer heard (l.drops ∙ ap (λ (y : FlowOutcome). y.dropped) o))
          (ap (view (after b p)) (sym s) ∙ (l.own ∙ ap (λ (y : FlowOutcome). y.next) o)) (ih l.ok)
      go false t =
          skipped b p ps (ap (is_of flow) e ∙ t) (l.others flow (ne_same flow g.flow (λ q. same_false g.flow flow t (sym q)))) (ih l.ok)

  -- from any board
  pub apart_from : (packets : List (List ℕ)) (b : Desk) → Ok b → Each AreBytes packets → AmongFlows setup flows packets
      → answers_to setup flow b packets ≡ alone setup flow (view b flow) (packets_of setup flow packets)
  apart_from [] b ok bytes occur = refl
  apart_from (p ∷ ps) b ok bytes occur = step b p ps ok bytes.0 occur.0 (λ next. apart_from ps (after b p) next bytes.1 occur.1) (parsed setup p) refl

pub flows_apart : FlowsApart
flows_apart setup d flows packets r flow =
    apart_from setup flows (Fine setup flows) (by_flow setup flows (omega (arith, r.few))) flow packets d (fresh-fine setup d r.fresh flows) r.bytes r.occur
    ∙ ap (λ (x : Option PDU). alone setup flow x (packets_of setup flow packets)) (fresh-view setup d r.fresh flow)

pub same_packets_same_answers : SamePacketsSameAnswers
same_packets_same_answers setup d d' flows flows' packets packets' r r' flow e =
    flows_apart setup d flows packets r flow
    ∙ (ap (alone setup flow none) e
    ∙ sym (flows_apart setup d' flows' packets' r' flow))

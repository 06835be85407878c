-- Any mixture: an endpoint that treats each flow by itself, as the one-flow endpoint does, delivers exactly the whole PDUs.
-- The invariant: what each flow still has to send is good from what the board has of that flow, and a flow that is not listed has nothing.
use Prim.Native.Nat.{ℕ, zero, suc, ◌^◌, ◌≤◌, ◌<◌}
use mathlib.Core.Path.{◌≡◌, refl, sym, ap, ◌∙◌, subst}
use mathlib.Core.List.{List, [], ◌∷◌, ◌++◌, map, tail}
use mathlib.Core.Bool.{Bool, true, false, cond, ◌||◌, false≢true}
use mathlib.Core.Option.{Option, none}
use lib.ListN.{take}
use Rattle.wire.specs.declared.Flow.{Flow}
use Rattle.wire.specs.Parsed.{Parsed}
use Rattle.wire.specs.Parsed.{Refused, Stream, Message}
use Rattle.wire.specs.Packet.{ids_of}
use Rattle.wire.specs.Type9.{same_flow}
use Rattle.wire.specs.Parsed.{parsed}
use Rattle.wire.specs.declared.Setup.{Setup}
use Rattle.flows.specs.OneFlow.{PDU}
use Rattle.reading.specs.Desk.{Desk, state_on}
use Rattle.flows.specs.Deliveries.{deliveries, Delivery, delivered_by, read, after, view}
use Rattle.flows.specs.Fresh.{Allowed}
use Rattle.flows.specs.ByFlow.{among, NoFlow, ByFlow}
use Rattle.lists.specs.Each.{Each}
use Rattle.lists.specs.First.{any}
use Rattle.sending.specs.Sending.{Put, flow_puts, FlowSent, Turn, next, between, sent_on, flows_of, Event, next_event}
use Rattle.sending.specs.Sending.{advance, events, queues, packets_left, tell, wholes, whole, FairFlow, FairTurn, OneOfTwoWhole}
use Rattle.sending.specs.OneFlow.{packet_step, delivered_pdu}
use Rattle.wire.proofs.SameFlow.{same_true}
use Rattle.sending.specs.OfSendings.{DeliveredIsWhole, DeliveredIsWholeAnyLoss, first_turns, DeliveredAtEveryTurn, SamePacketsSameWhole}
use Rattle.sending.proofs.OneFlow.{after_put, Good, one_flow}
use Rattle.sending.proofs.Rooms.{carried}
use Rattle.sending.proofs.Calls.{Own, by_own}

module _ (setup : Setup) (flows : List Flow) (Ok : Desk → Type 0) (law : ByFlow setup flows Ok) (own_R : (b : Desk) → Ok b → (state_on b).setup.room ≡ setup.room) where
  AllGood : Desk → (Flow → List Put) → Type 0
  AllGood b q = (flow : Flow) → Good setup flow (view b flow) (q flow)

  Listed : (Flow → List Put) → Type 0
  Listed q = (flow : Flow) → among flow flows ≡ false → q flow ≡ []

  -- a packet is taken from a flow's queue
  moved : (b c : Desk) (q : Flow → List Put) (flow : Flow) (x : Put) (xs : List Put) → q flow ≡ x ∷ xs → AllGood b q
      → view c flow ≡ after_put setup (view b flow) x → ((other : Flow) → same_flow other flow ≡ false → view c other ≡ view b other) → AllGood c (advance q flow)
  unfolding AllGood
  moved b c q flow x xs e good own others other = go (same_flow other flow) refl
    where
      go : (t : Bool) → same_flow other flow ≡ t → Good setup other (view c other) (cond t (tail (q other)) (q other))
      go true t =
          let g : Good setup flow (view b flow) (x ∷ xs) = subst (Good setup flow (view b flow)) e (good flow) in
          subst (λ (f : Flow). Good setup f (view c f) (tail (q f))) (sym (same_true other flow t))
          (subst (λ (l : List Put). Good setup flow (view c flow) (tail l)) (sym e) (subst (λ (o : Option PDU). Good setup flow o xs) (sym own) g.2))
      go false t = subst (λ (o : Option PDU). Good setup other o (q other)) (sym (others other t)) (good other)

  -- a flow has nothing left to send
  passed : (b : Desk) (q : Flow → List Put) (flow : Flow) → q flow ≡ [] → AllGood b q → AllGood b (advance q flow)
  unfolding AllGood
  passed b q flow e good other = go (same_flow other flow) refl
    where
      go : (t : Bool) → same_flow other flow ≡ t → Good setup other (view b other) (cond t (tail (q other)) (q other))
      go true t =
          subst (λ (f : Flow). Good setup f (view b f) (tail (q f))) (sym (same_true other flow t))
          (subst (λ (l : List Put). Good setup flow (view b flow) (tail l)) (sym e) tt)
      go false t = good other

  listed_on : (q : Flow → List Put) (flow : Flow) → Listed q → Listed (advance q flow)
  unfolding Listed
  listed_on q flow listed other none_of = go (same_flow other flow)
    where
      go : (t : Bool) → cond t (tail (q other)) (q other) ≡ []
      go true = ap tail (listed other none_of)
      go false = listed other none_of

  -- one turn of a flow, and then the rest by `rest`
  turn : (flow : Flow) (q : Flow → List Put) (b : Desk) (es : List Event) → Ok b → AllGood b q → Listed q
      → ((c : Desk) → Ok c → AllGood c (advance q flow) → deliveries c (packets_left es) ≡ wholes es)
      → deliveries b (packets_left (next_event flow (q flow) ++ es)) ≡ wholes (next_event flow (q flow) ++ es)
  unfolding AllGood Listed
  turn flow q b es ok good listed rest = go (q flow) refl
    where
      arrives : (x : Put) (xs : List Put) → q flow ≡ x ∷ xs → x.lost ≡ false → among flow flows ≡ true
          → deliveries b (x.packet ∷ packets_left es) ≡ tell flow x.whole (wholes es)
      arrives x xs e lost known =
          let p : List ℕ = x.packet in
          let g : Good setup flow (view b flow) (x ∷ xs) = subst (Good setup flow (view b flow)) e (good flow) in
          let o : Own Ok setup flow b p = by_own setup flows Ok law own_R flow known b p ok g.0 in
          let seen : delivered_pdu (packet_step setup (view b flow) p).told ≡ x.whole = sym (ap (λ (t : Bool). cond t none (delivered_pdu (packet_step setup (view b flow) p).told)) lost) ∙ g.1 in
          let left_with : view (after b p) flow ≡ after_put setup (view b flow) x = o.own ∙ sym (ap (λ (t : Bool). cond t (view b flow) (packet_step setup (view b flow) p).next) lost) in
          o.delivers (deliveries (after b p) (packets_left es))
          ∙ ap (λ (y : Option PDU). tell flow y (deliveries (after b p) (packets_left es))) seen
          ∙ ap (tell flow x.whole) (rest (after b p) o.ok (moved b (after b p) q flow x xs e good left_with o.others))

      at : (x : Put) (xs : List Put) → q flow ≡ x ∷ xs → (t : Bool) → x.lost ≡ t → (k : Bool) → among flow flows ≡ k
          → deliveries b (cond t (packets_left es) (x.packet ∷ packets_left es)) ≡ tell flow x.whole (wholes es)
      at x xs e t lost false known = absurd (nothing (sym e ∙ listed flow known))
        where
          nothing : x ∷ xs ≡ [] → ⊥
          nothing c = let z : ◌≡◌ {A = Bool} false true = cc in false≢true z
      at x xs e true lost true known =
          let g : Good setup flow (view b flow) (x ∷ xs) = subst (Good setup flow (view b flow)) e (good flow) in
          let w : none ≡ x.whole = sym (ap (λ (t : Bool). cond t none (delivered_pdu (packet_step setup (view b flow) x.packet).told)) lost) ∙ g.1 in
          rest b ok (moved b b q flow x xs e good (sym (ap (λ (t : Bool). cond t (view b flow) (packet_step setup (view b flow) x.packet).next) lost)) (λ other ne. refl))
          ∙ ap (λ (y : Option PDU). tell flow y (wholes es)) w
      at x xs e false lost true known = arrives x xs e lost known

      go : (l : List Put) → q flow ≡ l → deliveries b (packets_left (next_event flow l ++ es)) ≡ wholes (next_event flow l ++ es)
      go [] e = rest b ok (passed b q flow e good)
      go (x ∷ xs) e = at x xs e x.lost refl (among flow flows) refl

  -- another packet between: nothing is delivered of it, and no flow is touched
  quiet : (b : Desk) (p : List ℕ) → Ok b → FairTurn setup (between p) → NoFlow Ok setup b p
  quiet b p ok fair = go (parsed setup p) refl
    where
      go : (x : Parsed) → parsed setup p ≡ x → NoFlow Ok setup b p
      go (Refused number) e = law.of_refused b p number ok fair.1 e
      go (Stream g) e = absurd (fair.0 g e)
      go (Message m) e = law.of_message_lem b p m ok fair.1 e

  merge : (ts : List Turn) (q : Flow → List Put) (b : Desk) → Ok b → AllGood b q → Listed q → Each (FairTurn setup) ts → deliveries b (packets_left (events q ts)) ≡ wholes (events q ts)
  merge [] q b ok good listed fair = refl
  merge (between p ∷ ts) q b ok good listed fair =
      let no : NoFlow Ok setup b p = quiet b p ok fair.0 in
      ap (λ (r : ℕ). delivered_by r (after b p).stream_memory (read b p).says ++ deliveries (after b p) (packets_left (events q ts))) (own_R (after b p) no.ok)
      ∙ ap (λ (ds : List Delivery). ds ++ deliveries (after b p) (packets_left (events q ts))) no.tells
      ∙ merge ts q (after b p) no.ok (unfold AllGood in (λ flow. subst (λ (o : Option PDU). Good setup flow o (q flow)) (sym (no.views flow)) (good flow))) listed fair.1
  merge (next flow ∷ ts) q b ok good listed fair =
      turn flow q b (events (advance q flow) ts) ok good listed (λ c ok' good'. merge ts (advance q flow) c ok' good' (listed_on q flow listed) fair.1)

-- ---- From a board with no open flow

module _ (setup : Setup) (allowed : Allowed setup) where
  -- what each flow has to send is good from closed
  start-good : (xs : List FlowSent) → Each (FairFlow setup) xs → Each (λ (x : FlowSent). OneOfTwoWhole setup.mtu x.sent) xs → (flow : Flow)
      → Good setup flow none (flow_puts setup flow (sent_on xs flow))
  start-good [] fair apart flow = tt
  start-good (x ∷ xs) fair apart flow = go (same_flow flow x.flow) refl (start-good xs fair.1 apart.1 flow)
    where
      go : (t : Bool) → same_flow flow x.flow ≡ t → Good setup flow none (flow_puts setup flow (sent_on xs flow))
          → Good setup flow none (flow_puts setup flow (cond t x.sent (sent_on xs flow)))
      go true t rest =
          let f : FairFlow setup x = fair.0 in
          let e : flow ≡ x.flow = same_true flow x.flow t in
          one_flow setup flow (record {
            allowed = allowed;
            source = subst (λ (y : Flow). y.source < 256 ^ ids_of setup) (sym e) f.source;
            priority = subst (λ (y : Flow). y.priority ≤ 3) (sym e) f.priority;
            cos = subst (λ (y : Flow). y.cos < 256) (sym e) f.cos;
          }) x.sent f.PDUs apart.0
      go false t rest = rest

-- a flow that is not listed has nothing to send
start_listed : (setup : Setup) (xs : List FlowSent) (flow : Flow) → among flow (map (λ (x : FlowSent). x.flow) xs) ≡ false → flow_puts setup flow (sent_on xs flow) ≡ []
unfolding any
start_listed setup [] flow none_of = refl
start_listed setup (x ∷ xs) flow none_of = go (same_flow flow x.flow) none_of (start_listed setup xs flow)
  where
    go : (t : Bool) → (t || among flow (map (λ (y : FlowSent). y.flow) xs)) ≡ false
        → (among flow (map (λ (y : FlowSent). y.flow) xs) ≡ false → flow_puts setup flow (sent_on xs flow) ≡ [])
        → flow_puts setup flow (cond t x.sent (sent_on xs flow)) ≡ []
    go true e rest = absurd (false≢true (sym e))
    go false e rest = rest e

-- DEMAND 3, and more: however many packets of a PDU are lost.
pub delivered_is_whole_any_loss : DeliveredIsWholeAnyLoss
delivered_is_whole_any_loss setup s b allowed fair begins =
    let c = carried setup (flows_of s) b begins in
    merge setup (flows_of s) c.Ok c.law c.own_R s.turns (queues setup s) b c.ok
    (unfold AllGood in (λ flow. subst (λ (o : Option PDU). Good setup flow o (queues setup s flow)) (sym (begins.closed flow))
    (start-good setup allowed s.flows fair.sent_fairly.flows fair.neighbours flow)))
    (unfold Listed in (start_listed setup s.flows))
    fair.sent_fairly.turns

pub delivered_is_whole : DeliveredIsWhole
delivered_is_whole setup s b allowed fair begins = delivered_is_whole_any_loss setup s b allowed (record { sent_fairly = fair.sent_fairly; neighbours = fair.neighbours }) begins

-- a sending with fewer turns is a sending
each_take : {A : Type 0} (P : A → Type 0) (n : ℕ) (l : List A) → Each P l → Each P (take n l)
each_take P zero l h = tt
each_take P (suc n) [] h = tt
each_take P (suc n) (x ∷ xs) h = (h.0, each_take P n xs h.1)

pub delivered_at_every_turn : DeliveredAtEveryTurn
delivered_at_every_turn setup s b allowed fair begins n =
    let sent = fair.sent_fairly in
    delivered_is_whole_any_loss setup (first_turns n s) b allowed (record {
      sent_fairly = record { sixteen = sent.sixteen; flows = sent.flows; turns = each_take (FairTurn setup) n s.turns sent.turns };
      neighbours = fair.neighbours;
    }) begins

pub same_packets_same_whole : SamePacketsSameWhole
same_packets_same_whole setup s s' b allowed fair begins fair' begins' e =
    sym (delivered_is_whole_any_loss setup s b allowed fair begins) ∙ ap (deliveries b) e ∙ delivered_is_whole_any_loss setup s' b allowed fair' begins'

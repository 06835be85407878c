-- What a sending's words mean: by induction over the turns, a turn of the flow itself moves a packet from the one list to the other.
use Prim.Native.Nat.{ℕ, zero, suc, ◌+◌}
use mathlib.Core.Path.{◌≡◌, refl, sym, ap, ◌∙◌}
use mathlib.Core.List.{List, [], ◌∷◌, ◌++◌, tail, append-nil}
use mathlib.Core.Bool.{Bool, true, false, cond, ◌&&◌}
use mathlib.Core.Option.{Option, none, some}
use native.Mathlib.Omega.{arith}
use lib.ListN.{length}
use borrow.Author.Tests.{eq-eqb, ne_eqb}
use Rattle.wire.specs.declared.Flow.{Flow}
use Rattle.wire.specs.Type9.{same_flow}
use Rattle.sizes.specs.Sizes.{bad_mtu}
use Rattle.cutting.specs.Cutting.{is_final}
use Rattle.wire.specs.declared.Setup.{Setup}
use Rattle.flows.specs.OneFlow.{PDU}
use Rattle.lists.specs.Each.{Each}
use Rattle.sending.specs.Sending.{Sent, packet_count, is_whole, Put, put_of, puts_from, flow_puts, FlowSent, Turn, next, between, sent_on}
use Rattle.sending.specs.Sending.{Event, put, came, next_event, advance, events, queues, tell, wholes, FairPDU, FairFlow}
use Rattle.sending.specs.OneFlow.{also}
use Rattle.sending.specs.Meaning.{put_by, to_come, InOrder, intact, from_flow, WholeIsIntact}
use Rattle.sending.proofs.Steps.{count-pos}
use Rattle.wire.proofs.SameFlow.{same_true}
use Rattle.sending.proofs.Runs.{completed}

in_order-from : (flow : Flow) (ts : List Turn) (q : Flow → List Put) → put_by flow (events q ts) ++ to_come q ts flow ≡ q flow
in_order-from flow [] q = refl
in_order-from flow (between p ∷ ts) q = in_order-from flow ts q
in_order-from flow (next other ∷ ts) q = go (q other) refl (same_flow flow other) refl (in_order-from flow ts (advance q other))
  where
    rest : List Put
    rest = to_come (advance q other) ts flow

    others : List Put
    others = put_by flow (events (advance q other) ts)

    own : (l : List Put) → q other ≡ l → same_flow flow other ≡ true → q flow ≡ l
    own l e t = ap q (same_true flow other t) ∙ e

    go : (l : List Put) → q other ≡ l → (t : Bool) → same_flow flow other ≡ t → others ++ rest ≡ cond (same_flow flow other) (tail (q flow)) (q flow)
        → put_by flow (next_event other l ++ events (advance q other) ts) ++ rest ≡ q flow
    go [] e true t ih = ih ∙ ap (λ (b : Bool). cond b (tail (q flow)) (q flow)) t ∙ ap tail (own [] e t) ∙ sym (own [] e t)
    go [] e false t ih = ih ∙ ap (λ (b : Bool). cond b (tail (q flow)) (q flow)) t
    go (x ∷ xs) e true t ih =
        ap (λ (b : Bool). cond b (x ∷ others) others ++ rest) t
        ∙ ap (λ (l : List Put). x ∷ l) (ih ∙ ap (λ (b : Bool). cond b (tail (q flow)) (q flow)) t ∙ ap tail (own (x ∷ xs) e t))
        ∙ sym (own (x ∷ xs) e t)
    go (x ∷ xs) e false t ih =
        ap (λ (b : Bool). cond b (x ∷ others) others ++ rest) t ∙ ih ∙ ap (λ (b : Bool). cond b (tail (q flow)) (q flow)) t

pub in_order : InOrder
in_order setup s flow = in_order-from flow s.turns (queues setup s)

-- ---- A flow's whole PDUs are those that its packets complete

completes : (flow : Flow) (es : List Event) → from_flow flow (wholes es) ≡ completed (put_by flow es)
completes flow [] = refl
completes flow (came p ∷ es) = completes flow es
completes flow (put other x ∷ es) = go x.whole refl (same_flow flow other) refl (completes flow es)
  where
    go : (w : Option PDU) → x.whole ≡ w → (t : Bool) → same_flow flow other ≡ t → from_flow flow (wholes es) ≡ completed (put_by flow es)
        → from_flow flow (tell other w (wholes es)) ≡ completed (cond (same_flow flow other) (x ∷ put_by flow es) (put_by flow es))
    go none e true t ih = rw t (ih ∙ ap (λ (y : Option PDU). also y (completed (put_by flow es))) (sym e))
    go none e false t ih = rw t ih
    go (some p) e true t ih = rw t (ap (λ (l : List PDU). p ∷ l) ih ∙ ap (λ (y : Option PDU). also y (completed (put_by flow es))) (sym e))
    go (some p) e false t ih = rw t ih

-- ---- The packets of a PDU complete it, if it lost nothing

module _ (setup : Setup) (flow : Flow) (s : Sent) (more : List Put) where
  whole_of : (k : ℕ) (last : Bool) → is_final setup.mtu s.pdu.bytes k ≡ last → (put_of setup flow s k).whole ≡ cond (last && is_whole setup.mtu s) (some s.pdu) none
  unfolding put_of
  whole_of k last e = rw e

  completed-from : (n k : ℕ) → k + suc n ≡ packet_count setup.mtu s → completed (puts_from setup flow s k (suc n) ++ more) ≡ also (cond (is_whole setup.mtu s) (some s.pdu) none) (completed more)
  unfolding is_final
  completed-from zero k e = rw (whole_of k true (eq-eqb (k + 1) (packet_count setup.mtu s) (omega arith)))
  completed-from (suc n) k e = rw (whole_of k false (ne_eqb (k + 1) (packet_count setup.mtu s) (λ t. omega arith))) (completed-from n (suc k) (omega arith))

-- and so for all PDUs of a flow
pub flow_completed : (setup : Setup) (flow : Flow) → bad_mtu setup.mtu ≡ false → (ss : List Sent) → Each (FairPDU setup.room) ss → completed (flow_puts setup flow ss) ≡ intact setup.mtu ss
flow_completed setup flow allowed [] fair = refl
flow_completed setup flow allowed (s ∷ ss) fair = go (packet_count setup.mtu s) refl (flow_completed setup flow allowed ss fair.1)
  where
    by_whole : (b : Bool) → completed (flow_puts setup flow ss) ≡ intact setup.mtu ss
        → also (cond b (some s.pdu) none) (completed (flow_puts setup flow ss)) ≡ cond b (s.pdu ∷ intact setup.mtu ss) (intact setup.mtu ss)
    by_whole true e = ap (λ (l : List PDU). s.pdu ∷ l) e
    by_whole false e = e

    go : (c : ℕ) → packet_count setup.mtu s ≡ c → completed (flow_puts setup flow ss) ≡ intact setup.mtu ss
        → completed (puts_from setup flow s 0 c ++ flow_puts setup flow ss) ≡ intact setup.mtu (s ∷ ss)
    go zero e rest = absurd (omega (arith, count-pos setup.mtu (length s.pdu.bytes) allowed fair.0.some_byte))
    go (suc n) e rest = completed-from setup flow s (flow_puts setup flow ss) n 0 (omega arith) ∙ by_whole (is_whole setup.mtu s) rest

-- the PDUs of a listed flow are fair
sent_fair : (setup : Setup) (xs : List FlowSent) → Each (FairFlow setup) xs → (flow : Flow) → Each (FairPDU setup.room) (sent_on xs flow)
sent_fair setup [] fair flow = tt
sent_fair setup (x ∷ xs) fair flow = go (same_flow flow x.flow) (sent_fair setup xs fair.1 flow)
  where
    go : (t : Bool) → Each (FairPDU setup.room) (sent_on xs flow) → Each (FairPDU setup.room) (cond t x.sent (sent_on xs flow))
    go true rest = fair.0.PDUs
    go false rest = rest

pub whole_is_intact : WholeIsIntact
whole_is_intact setup s flow allowed fair done =
    let on : List Put = put_by flow (events (queues setup s) s.turns) in
    let all : on ≡ queues setup s flow = sym (append-nil on) ∙ ap (λ (l : List Put). on ++ l) (sym done) ∙ in_order setup s flow in
    completes flow (events (queues setup s) s.turns) ∙ ap completed all
    ∙ flow_completed setup flow allowed (sent_on s.flows flow) (sent_fair setup s.flows fair.flows flow)

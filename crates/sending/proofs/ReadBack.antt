-- One PDU alone, read back: before packet k the flow has the first k MTU bytes.
use Prim.Native.Nat.{ℕ, zero, suc, ◌*◌, ◌<◌}
use mathlib.Core.Path.{◌≡◌, sym, ap, ap₂, ◌∙◌, subst}
use mathlib.Core.List.{List, [], ◌∷◌}
use mathlib.Core.Bool.{Bool, false}
use mathlib.Core.Option.{Option, none, some}
use native.Mathlib.Omega.{arith}
use lib.ListN.{length, take}
use lib.Seq.{length-take-le}
use Rattle.answers.specs.Answers as answers
use Rattle.wire.specs.declared.Flow.{Flow}
use Rattle.wire.specs.declared.Setup.{Setup}
use Rattle.flows.specs.OneFlow.{PDU, pdu, Told, held, delivered, refused, FlowOutcome, flow_outcome}
use Rattle.reading.specs.Desk.{Desk}
use Rattle.flows.specs.Deliveries.{Delivery, delivery, delivered_by, read, in_room, view}
use Rattle.flows.specs.ByFlow.{Tells}
use Rattle.sending.specs.Sending.{Sent, packet_count, FairPDU, Ranges}
use Rattle.sending.specs.OneFlow.{packet_step}
use Rattle.sending.specs.OfSendings.{packet_at, desk_at, HandsBack, ReadsBack, ReadBack}
use Rattle.sending.proofs.Steps.{inner_size, data_behind, all_taken, at-single, at-start, at_inner, at_last}
use Rattle.sending.proofs.OneFlow.{proper_packet}
use Rattle.sending.proofs.Rooms.{Carried, carried}
use Rattle.sending.proofs.Calls.{Own, by_own, among_itself}
use Rattle.sending.proofs.Measured.{length_is_measured}

-- ---- An answer that delivers a PDU

module _ (R : ℕ) (memory : List ℕ) (flow : Flow) (p : PDU) where
  -- the answer's numbers, from what it delivers
  record Numbers (says : answers.Said) : Type 0 where
    context : ℕ
    size : ℕ
    answer : says ≡ answers.delivered context flow p.stream size
    holds : in_room R memory context size ≡ p.bytes

  nothing : {A : Type 0} → ◌≡◌ {A = List Delivery} [] (delivery flow p ∷ []) → A
  nothing e = absurd (let z : ◌≡◌ {A = ℕ} 0 1 = cc in omega arith)

  numbers : (says : answers.Said) → delivered_by R memory says ≡ delivery flow p ∷ [] → Numbers says
  numbers (answers.delivered context other stream size) e =
      let d : delivery other (pdu stream (in_room R memory context size)) ≡ delivery flow p = cc in
      record {
        context = context;
        size = size;
        answer = ap₂ (λ (f : Flow) (t : ℕ). answers.delivered context f t size) (ap (λ (x : Delivery). x.flow) d) (ap (λ (x : Delivery). x.pdu.stream) d);
        holds = ap (λ (x : Delivery). x.pdu.bytes) d;
      }
  numbers answers.held e = nothing e
  numbers (answers.message context source letter mailbox size) e = nothing e
  numbers (answers.refused number) e = nothing e

-- the same with the length, which is that of the bytes
hands_back : (R : ℕ) (flow : Flow) (p : PDU) (b : Desk) (says : answers.Said)
    → ((context : ℕ) (flow : Flow) (stream size : ℕ) → says ≡ answers.delivered context flow stream size → length (in_room R b.stream_memory context size) ≡ size)
    → delivered_by R b.stream_memory says ≡ delivery flow p ∷ [] → HandsBack R flow p b says
hands_back R flow p b says measured e =
    let n = numbers R b.stream_memory flow p says e in
    let size_is : n.size ≡ length p.bytes = sym (measured n.context flow p.stream n.size n.answer) ∙ ap length n.holds in
    record {
      context = n.context;
      answer = n.answer ∙ ap (answers.delivered n.context flow p.stream) size_is;
      holds = ap (in_room R b.stream_memory n.context) (sym size_is) ∙ n.holds;
    }

-- ---- The PDU's packets, one after the other

module _ (setup : Setup) (flow : Flow) (s : Sent) (b : Desk) (ranges : Ranges setup flow) (fair : FairPDU setup.room s) (begins : Carried setup (flow ∷ []) b) where
  abbrev bytes : List ℕ
  bytes = s.pdu.bytes

  -- what the flow has before packet k
  abbrev before : ℕ → Option PDU
  before zero = none
  before (suc k) = some (pdu s.pdu.stream (take (suc k * setup.mtu) bytes))

  so_far : (k : ℕ) → suc k < packet_count setup.mtu s → length (take (suc k * setup.mtu) bytes) ≡ suc k * setup.mtu
  so_far k h = let z = inner_size setup flow ranges s fair k h in length-take-le (suc k * setup.mtu) bytes (omega arith)

  -- what the endpoint does at it
  step_inner : (k : ℕ) → suc k < packet_count setup.mtu s → (dropped : Bool) × (packet_step setup (before k) (packet_at setup flow s k) ≡ flow_outcome (before (suc k)) held dropped)
  step_inner zero h = (false, at-start setup flow ranges s fair none h)
  step_inner (suc k) h =
      let l = so_far k (omega arith) in
      let z = inner_size setup flow ranges s fair (suc k) h in (
        false,
        at_inner setup flow ranges s fair k (pdu s.pdu.stream (take (suc k * setup.mtu) bytes)) h (omega (arith, fair.fits))
            ∙ ap (λ (x : List ℕ). flow_outcome (some (pdu s.pdu.stream x)) held false) (data_behind setup flow ranges s fair (suc k)),
      )

  step_last : (k : ℕ) → suc k ≡ packet_count setup.mtu s → (packet_step setup (before k) (packet_at setup flow s k)).told ≡ delivered s.pdu
  step_last zero e = ap (λ (x : FlowOutcome). x.told) (at-single setup flow ranges s fair none e)
  step_last (suc k) e =
      ap (λ (x : FlowOutcome). x.told) (at_last setup flow ranges s fair k (pdu s.pdu.stream (take (suc k * setup.mtu) bytes)) e (so_far k (omega arith)))
      ∙ ap (λ (x : List ℕ). delivered (pdu s.pdu.stream x)) (data_behind setup flow ranges s fair (suc k) ∙ all_taken setup flow ranges s fair (suc k) e)

  -- the board before packet k
  record Before (k : ℕ) : Type 0 where
    ok : begins.Ok (desk_at read setup flow s b k)
    has : view (desk_at read setup flow s b k) flow ≡ before k

  call : (k : ℕ) → k < packet_count setup.mtu s → Before k → Own begins.Ok setup flow (desk_at read setup flow s b k) (packet_at setup flow s k)
  call k below at =
      by_own setup (flow ∷ []) begins.Ok begins.law begins.own_R flow (among_itself flow) (desk_at read setup flow s b k) (packet_at setup flow s k) at.ok
      (proper_packet setup flow ranges s fair k below)

  reached : (k : ℕ) → k < packet_count setup.mtu s → Before k
  reached zero below = record { ok = begins.ok; has = begins.closed flow }
  reached (suc k) below =
      let at = reached k (omega arith) in
      let c = call k (omega arith) at in
      record {
        ok = c.ok;
        has = c.own ∙ ap (λ (o : Option PDU). (packet_step setup o (packet_at setup flow s k)).next) at.has ∙ ap (λ (x : FlowOutcome). x.next) (step_inner k below).1;
      }

  tells_at : (k : ℕ) (told : Told) → k < packet_count setup.mtu s → (packet_step setup (before k) (packet_at setup flow s k)).told ≡ told
      → Tells setup.room (desk_at read setup flow s b (suc k)).stream_memory flow (read (desk_at read setup flow s b k) (packet_at setup flow s k)).says told
  tells_at k told below e =
      let at = reached k below in
      subst (Tells setup.room (desk_at read setup flow s b (suc k)).stream_memory flow (read (desk_at read setup flow s b k) (packet_at setup flow s k)).says)
      (ap (λ (o : Option PDU). (packet_step setup o (packet_at setup flow s k)).told) at.has ∙ e) (call k below at).tells

  reads_back : ReadsBack read setup flow s b
  reads_back = record {
    each = λ k h. tells_at k held (omega arith) (ap (λ (x : FlowOutcome). x.told) (step_inner k h).1);
    last = λ k e.
        hands_back setup.room flow s.pdu (desk_at read setup flow s b (suc k)) _
        (λ context other stream size e'.
        ap (λ (r : ℕ). length (in_room r (desk_at read setup flow s b (suc k)).stream_memory context size)) (sym (begins.own_R (desk_at read setup flow s b k) (reached k (omega arith)).ok))
        ∙ length_is_measured (desk_at read setup flow s b k) (packet_at setup flow s k) context other stream size e')
        (tells_at k (delivered s.pdu) (omega arith) (step_last k e));
  }

-- DEMAND 2.
pub read_back : ReadBack
read_back setup flow s b ranges fair begins = reads_back setup flow s b ranges fair (carried setup (flow ∷ []) b begins)

-- The joint, exactly: what the first of two neighbours leaves and what the second then gives, put together; and the same of the endpoint.
use Prim.Native.Nat.{ℕ, zero, suc, ◌+◌, ◌*◌, ◌<◌}
use mathlib.Core.Path.{◌≡◌, refl, sym, ap, ◌∙◌}
use mathlib.Core.Logic.{inl, ◌↔◌}
use mathlib.Core.List.{List, [], ◌∷◌, ◌++◌, map, append-nil, append_cancel_left, append_cancel_right}
use mathlib.Core.Bool.{Bool, true, false, cond, ◌&&◌, false≢true}
use mathlib.Core.Option.{Option, none, some}
use native.Mathlib.Omega.{arith}
use native.Mathlib.Nat.{one-mul}
use lib.ListN.{length, take, drop, length-append, length-drop, take-append-drop}
use lib.Seq.{length-take-le}
use lib.Dec.{eqb, leb}
use borrow.Author.Tests.{eqb-true, eq-eqb, ne_eqb, leb-true}
use Rattle.wire.specs.declared.Flow.{Flow}
use Rattle.wire.specs.declared.Setup.{Setup}
use Rattle.flows.specs.OneFlow.{PDU, pdu}
use Rattle.flows.specs.Deliveries.{delivery}
use Rattle.lists.specs.Each.{Each}
use Rattle.sending.specs.Sending.{Sent, is_lost, packet_count, Put, put_of, puts_from, flow_puts, FairPDU, Ranges}
use Rattle.sending.specs.OneFlow.{flow_deliveries, arriving}
use Rattle.sending.specs.Joint.{is_joint, joint_pdu, pair_packets, JointExactly, JointOnly, JointLength, JointUnsent, JointDelivered}
use Rattle.sending.proofs.Steps.{mtu_pos, inner_size}
use Rattle.sending.proofs.OneFlow.{Proper, proper_packet}
use Rattle.sending.proofs.Rooms.{carried}
use Rattle.sending.proofs.Calls.{among_itself, flow_alone}
use Rattle.sending.proofs.Runs.{gives, leaves, gives-append}
use Rattle.sending.proofs.Halves.{FirstLeaves, closed, opened, first_leaves, gives_nothing, gives_after}

pub joint_exactly : JointExactly
unfolding is_joint
joint_exactly setup flow a b pair =
    gives-append setup puts_a (puts_b ++ []) none
    ∙ ap (λ (x : List PDU). x ++ gives setup (leaves setup none puts_a) (puts_b ++ [])) (gives_nothing setup flow pair.ranges a pair.first_fair pair.first_loses none (inl refl))
    ∙ ap (gives setup (leaves setup none puts_a)) (append-nil puts_b)
    ∙ go (first_leaves setup flow pair.ranges a pair.first_fair pair.first_loses)
  where
    puts_a : List Put
    puts_a = puts_from setup flow a 0 (packet_count setup.mtu a)

    puts_b : List Put
    puts_b = puts_from setup flow b 0 (packet_count setup.mtu b)

    opens : (l : ℕ) → suc (suc l) ≡ packet_count setup.mtu a → is_lost a (suc l) ≡ true
        → gives setup (some (pdu a.pdu.stream (take (suc l * setup.mtu) a.pdu.bytes))) puts_b ≡ cond (is_joint setup.mtu a b) (joint_pdu setup.mtu a b ∷ []) []
    opens zero e lost =
        let size = inner_size setup flow pair.ranges a pair.first_fair 0 (omega arith) in
        let once : 1 * setup.mtu ≡ setup.mtu = one-mul setup.mtu in
        rw (eq-eqb (packet_count setup.mtu a) 2 (sym e), lost, once)
        (gives_after setup flow pair.ranges b pair.second_fair (pdu a.pdu.stream (take setup.mtu a.pdu.bytes)) pair.second_loses true
        (λ t. length-take-le setup.mtu a.pdu.bytes (omega arith)) (λ t. absurd (false≢true (sym t))))
    opens (suc l) e lost =
        let size = inner_size setup flow pair.ranges a pair.first_fair (suc l) (omega arith) in
        let pos = mtu_pos setup flow pair.ranges a pair.first_fair in
        let so_far : length (take (suc (suc l) * setup.mtu) a.pdu.bytes) ≡ suc (suc l) * setup.mtu = length-take-le (suc (suc l) * setup.mtu) a.pdu.bytes (omega arith) in
        rw (ne_eqb (packet_count setup.mtu a) 2 (λ t. omega arith))
        (gives_after setup flow pair.ranges b pair.second_fair (pdu a.pdu.stream (take (suc (suc l) * setup.mtu) a.pdu.bytes)) pair.second_loses false
        (λ t. absurd (false≢true t)) (λ t. omega arith))

    go : FirstLeaves setup flow pair.ranges a pair.first_fair → gives setup (leaves setup none puts_a) puts_b ≡ cond (is_joint setup.mtu a b) (joint_pdu setup.mtu a b ∷ []) []
    go (closed e no_joint) =
        rw (e, no_joint) (gives_nothing setup flow pair.ranges b pair.second_fair pair.second_loses none (inl refl))
    go (opened l e lost open_is) = rw open_is (opens l e lost)

pub joint_only : JointOnly
joint_only setup flow a b pair = go (is_joint setup.mtu a b) (joint_exactly setup flow a b pair)
  where
    some_list : (x : PDU) (xs : List PDU) → x ∷ xs ≡ [] → ⊥
    some_list x xs e = let z : ◌≡◌ {A = ℕ} 0 1 = cc in omega arith

    go : (t : Bool) → flow_deliveries setup none (pair_packets setup flow a b) ≡ cond t (joint_pdu setup.mtu a b ∷ []) []
        → (flow_deliveries setup none (pair_packets setup flow a b) ≡ [] → ⊥) ↔ (t ≡ true)
    go true e = (λ h. refl, λ h n. some_list (joint_pdu setup.mtu a b) [] (sym e ∙ n))
    go false e = (λ h. absurd (h e), λ h. absurd (false≢true h))

pub joint-length : JointLength
unfolding is_joint
joint-length setup flow a b pair e = go (eqb (packet_count setup.mtu a) 2) (is_lost a 1) (leb 2 (packet_count setup.mtu b)) (is_lost b 0) refl refl e
  where
    both : eqb (packet_count setup.mtu a) 2 ≡ true → leb 2 (packet_count setup.mtu b) ≡ true → length (joint_pdu setup.mtu a b).bytes ≡ length b.pdu.bytes
    both p q =
        let two = eqb-true (packet_count setup.mtu a) 2 p in
        let more = leb-true 2 (packet_count setup.mtu b) q in
        let sa = inner_size setup flow pair.ranges a pair.first_fair 0 (omega arith) in
        let sb = inner_size setup flow pair.ranges b pair.second_fair 0 (omega arith) in
        let front : length (take setup.mtu a.pdu.bytes) ≡ setup.mtu = length-take-le setup.mtu a.pdu.bytes (omega arith) in
        let back = length-drop setup.mtu b.pdu.bytes in
        length-append (take setup.mtu a.pdu.bytes) (drop setup.mtu b.pdu.bytes) ∙ omega arith

    go : (p x q y : Bool) → eqb (packet_count setup.mtu a) 2 ≡ p → leb 2 (packet_count setup.mtu b) ≡ q → ((p && x) && (q && y)) ≡ true
        → length (joint_pdu setup.mtu a b).bytes ≡ length b.pdu.bytes
    go true true true y ep eq e = both ep eq
    go true true false y ep eq e = absurd (false≢true e)
    go true false q y ep eq e = absurd (false≢true e)
    go false x q y ep eq e = absurd (false≢true e)

-- were it the first, what follows the same beginning would be the same; were it the second, what comes before the same end
pub joint_unsent : JointUnsent
joint_unsent mtu a b ends begins = (
  λ e. ends
      (append_cancel_left (take mtu a.pdu.bytes) (drop mtu a.pdu.bytes) (drop mtu b.pdu.bytes)
      (take-append-drop mtu a.pdu.bytes ∙ sym (ap (λ (p : PDU). p.bytes) e))),
  λ e. begins (
    ap (λ (p : PDU). p.stream) e,
    append_cancel_right (take mtu a.pdu.bytes) (take mtu b.pdu.bytes) (drop mtu b.pdu.bytes)
        (ap (λ (p : PDU). p.bytes) e ∙ sym (take-append-drop mtu b.pdu.bytes)),
  ),
)

-- ---- The endpoint

-- each packet of a flow that arrives is of that flow
proper_puts : (setup : Setup) (flow : Flow) (ranges : Ranges setup flow) (s : Sent) (fair : FairPDU setup.room s) (more : List Put) (n k : ℕ) → k + n ≡ packet_count setup.mtu s
    → Each (Proper setup flow) (arriving more) → Each (Proper setup flow) (arriving (puts_from setup flow s k n ++ more))
proper_puts setup flow ranges s fair more zero k e rest = rest
proper_puts setup flow ranges s fair more (suc n) k e rest =
    go (put_of setup flow s k).lost (proper_put (omega arith)) (proper_puts setup flow ranges s fair more n (suc k) (omega arith) rest)
  where
    go : (t : Bool) → Proper setup flow (put_of setup flow s k).packet → Each (Proper setup flow) (arriving (puts_from setup flow s (suc k) n ++ more))
        → Each (Proper setup flow) (cond t (arriving (puts_from setup flow s (suc k) n ++ more)) ((put_of setup flow s k).packet ∷ arriving (puts_from setup flow s (suc k) n ++ more)))
    go true p others = others
    go false p others = (p, others)

    proper_put : k < packet_count setup.mtu s → Proper setup flow (put_of setup flow s k).packet
    proper_put below = unfold put_of in proper_packet setup flow ranges s fair k below

pub joint_delivered : JointDelivered
joint_delivered setup flow a b board pair begins =
    let c = carried setup (flow ∷ []) board begins in
    flow_alone setup (flow ∷ []) c.Ok c.law c.own_R flow (among_itself flow) (pair_packets setup flow a b) board c.ok
    (proper_puts setup flow pair.ranges a pair.first_fair (flow_puts setup flow (b ∷ [])) (packet_count setup.mtu a) 0 (omega arith)
    (proper_puts setup flow pair.ranges b pair.second_fair [] (packet_count setup.mtu b) 0 (omega arith) tt))
    ∙ ap (λ (o : Option PDU). map (delivery flow) (flow_deliveries setup o (pair_packets setup flow a b))) (begins.closed flow)
    ∙ ap (map (delivery flow)) (joint_exactly setup flow a b pair)
    ∙ go (is_joint setup.mtu a b)
  where
    go : (t : Bool) → map (delivery flow) (cond t (joint_pdu setup.mtu a b ∷ []) []) ≡ cond t (delivery flow (joint_pdu setup.mtu a b) ∷ []) []
    go true = refl
    go false = refl

-- One flow: from closed, at each packet the endpoint delivers exactly the PDU that is whole with it.
-- A PDU that lost something is not delivered if the flow was closed before it; one that lost nothing is delivered whatever came before.
use Prim.Native.Nat.{ℕ, zero, suc, ◌+◌, ◌-◌, ◌*◌, ◌≤◌, ◌<◌}
use mathlib.Core.Path.{◌≡◌, refl, sym, ap, ◌∙◌}
use mathlib.Core.Logic.{◌⊎◌, inl, inr}
use mathlib.Core.List.{List, [], ◌∷◌, ◌++◌}
use mathlib.Core.Bool.{Bool, true, false, cond, ◌&&◌, false≢true}
use mathlib.Core.Option.{Option, none, some}
use native.Mathlib.Omega.{arith}
use lib.ListN.{length, take, length-append}
use lib.Seq.{length-take-le}
use borrow.Author.Tests.{eqb-true, eqb-false}
use Rattle.lists.specs.Bytes.{AreBytes}
use Rattle.wire.specs.declared.Flow.{Flow}
use Rattle.wire.specs.Parsed.{Stream}
use Rattle.wire.specs.Packet.{ids_of}
use Rattle.wire.specs.Type9.{segment_of}
use Rattle.wire.specs.Parsed.{parsed}
use Rattle.cutting.specs.Cutting.{segment_data, is_final, packet_of}
use Rattle.wire.specs.declared.Setup.{Setup}
use Rattle.flows.specs.OneFlow.{PDU, pdu, Told, held, delivered, refused, flow_outcome, is_open}
use Rattle.lists.specs.Each.{Each}
use Rattle.sending.specs.Sending.{Sent, is_lost, packet_count, losses_from, losses, is_whole, Put, heading_for, put_of, puts_from, flow_puts, FairPDU, OneOfTwoWhole, Ranges}
use Rattle.sending.specs.OneFlow.{packet_step, delivered_pdu}
use Rattle.sending.proofs.Losses.{none_lost}
use Rattle.sending.proofs.Steps.{mtu_pos, packet-read, packet_bytes, packet_flow, final_is, inner_is, some-packet, last_size, inner_size}
use Rattle.sending.proofs.Steps.{data_behind, all_taken, at-single, at-start, at_inner, at_last, at_last_wrong, at_closed}

-- a packet that is read, and is of that flow
pub record Proper (setup : Setup) (flow : Flow) (p : List ℕ) : Type 0 where
  pub reads : parsed setup p ≡ Stream (segment_of (ids_of setup) p)
  pub of_flow_lem : (segment_of (ids_of setup) p).flow ≡ flow
  pub bytes : AreBytes p

module _ (setup : Setup) where
  -- what the flow's endpoint has after a packet that is put on, and what it delivers: nothing happens where it is lost
  abbrev pub after_put : Option PDU → Put → Option PDU
  after_put o x = cond x.lost o (packet_step setup o x.packet).next

  abbrev pub seen_at : Option PDU → Put → Option PDU
  seen_at o x = cond x.lost none (delivered_pdu (packet_step setup o x.packet).told)

-- at each packet the endpoint delivers the PDU that is whole with it, and else none
abbrev pub Good : Setup → Flow → Option PDU → List Put → Type 0
Good setup flow o [] = Unit {0}
Good setup flow o (x ∷ xs) = Proper setup flow x.packet × (seen_at setup o x ≡ x.whole) × Good setup flow (after_put setup o x) xs

-- packet k is
pub proper_packet : (setup : Setup) (flow : Flow) → Ranges setup flow → (s : Sent) → FairPDU setup.room s → (k : ℕ) → k < packet_count setup.mtu s
    → Proper setup flow (packet_of (heading_for setup flow s) setup.mtu s.pdu.bytes k)
proper_packet setup flow ranges s fair k below = record {
  reads = packet-read setup flow ranges s fair k below;
  of_flow_lem = packet_flow setup flow ranges s fair k;
  bytes = packet_bytes setup flow ranges s fair k below;
}

module _ (setup : Setup) (flow : Flow) (ranges : Ranges setup flow) (s : Sent) (fair : FairPDU setup.room s) (more : List Put) where
  abbrev Good' : Option PDU → List Put → Type 0
  Good' = Good setup flow

  abbrev packet : ℕ → List ℕ
  packet k = packet_of (heading_for setup flow s) setup.mtu s.pdu.bytes k

  abbrev put : ℕ → Put
  put k = put_of setup flow s k

  proper : (k : ℕ) → k < packet_count setup.mtu s → Proper setup flow (put k).packet
  unfolding put_of
  proper k below = proper_packet setup flow ranges s fair k below

  -- packet k is lost, or it arrives
  put_lost : (k : ℕ) (o : Option PDU) (xs : List Put) → k < packet_count setup.mtu s → is_lost s k ≡ true → (put k).whole ≡ none → Good' o xs → Good' o (put k ∷ xs)
  unfolding put_of
  put_lost k o xs below e w g = (proper k below, rw e (sym w), rw e g)

  put-seen : (k : ℕ) (o o' : Option PDU) (told : Told) (dropped : Bool) (xs : List Put) → k < packet_count setup.mtu s → is_lost s k ≡ false
      → packet_step setup o (packet k) ≡ flow_outcome o' told dropped → delivered_pdu told ≡ (put k).whole → Good' o' xs → Good' o (put k ∷ xs)
  unfolding put_of
  put-seen k o o' told dropped xs below e step w g =
      (proper k below, rw (e, step) w, rw (e, step) g)

  -- the PDU that is whole with packet k
  whole_inner : (k : ℕ) → suc k < packet_count setup.mtu s → (put k).whole ≡ none
  unfolding put_of
  whole_inner k h = rw (inner_is setup flow ranges s fair k h)

  whole_last : (k : ℕ) → suc k ≡ packet_count setup.mtu s → is_whole setup.mtu s ≡ true → (put k).whole ≡ some s.pdu
  unfolding put_of
  whole_last k e w = rw (final_is setup flow ranges s fair k e, w)

  pub whole-lossy : (k : ℕ) → is_whole setup.mtu s ≡ false → (put k).whole ≡ none
  unfolding put_of
  whole-lossy k w = rw w (go (is_final setup.mtu s.pdu.bytes k))
    where
      go : (b : Bool) → cond (b && false) (some s.pdu) none ≡ none
      go true = refl
      go false = refl

  -- Nothing lost: behind the packets before k come the rest, and the last delivers the PDU.
  tail-whole : (n k : ℕ) → suc k + suc n ≡ packet_count setup.mtu s → is_whole setup.mtu s ≡ true → losses_from s.lost (suc k) (suc n) ≡ 0 → Good' none more
      → Good' (some (pdu s.pdu.stream (take (suc k * setup.mtu) s.pdu.bytes))) (puts_from setup flow s (suc k) (suc n) ++ more)
  tail-whole zero k e w l g =
      let last : suc (suc k) ≡ packet_count setup.mtu s = omega arith in
      let size = last_size setup flow ranges s fair (suc k) last in
      let so_far : length (take (suc k * setup.mtu) s.pdu.bytes) ≡ suc k * setup.mtu = length-take-le (suc k * setup.mtu) s.pdu.bytes (omega arith) in
      put-seen (suc k) _ none _ false more (omega arith) (none_lost s.lost (suc k) 0 l).0
      (at_last setup flow ranges s fair k (pdu s.pdu.stream (take (suc k * setup.mtu) s.pdu.bytes)) last so_far)
      (ap (λ (b : List ℕ). some (pdu s.pdu.stream b)) (data_behind setup flow ranges s fair (suc k) ∙ all_taken setup flow ranges s fair (suc k) last)
      ∙ sym (whole_last (suc k) last w))
      g
  tail-whole (suc n) k e w l g =
      let inner : suc (suc k) < packet_count setup.mtu s = omega arith in
      let size = inner_size setup flow ranges s fair (suc k) inner in
      let so_far : length (take (suc k * setup.mtu) s.pdu.bytes) ≡ suc k * setup.mtu = length-take-le (suc k * setup.mtu) s.pdu.bytes (omega arith) in
      let here = none_lost s.lost (suc k) (suc n) l in
      put-seen (suc k) _ _ _ false (puts_from setup flow s (suc (suc k)) (suc n) ++ more) (omega arith) here.0
      (at_inner setup flow ranges s fair k (pdu s.pdu.stream (take (suc k * setup.mtu) s.pdu.bytes)) inner (omega (arith, fair.fits))
      ∙ ap (λ (b : List ℕ). flow_outcome (some (pdu s.pdu.stream b)) held false) (data_behind setup flow ranges s fair (suc k)))
      (sym (whole_inner (suc k) inner))
      (tail-whole n (suc k) (omega arith) w here.1 g)

  -- The start lost: whatever follows is refused with 8, and the flow stays closed.
  tail_closed : (n k : ℕ) → suc k + n ≡ packet_count setup.mtu s → is_whole setup.mtu s ≡ false → Good' none more → Good' none (puts_from setup flow s (suc k) n ++ more)
  tail_closed zero k e w g = g
  tail_closed (suc n) k e w g = go (is_lost s (suc k)) refl (tail_closed n (suc k) (omega arith) w g)
    where
      go : (b : Bool) → is_lost s (suc k) ≡ b → Good' none (puts_from setup flow s (suc (suc k)) n ++ more) → Good' none (put (suc k) ∷ (puts_from setup flow s (suc (suc k)) n ++ more))
      go true lost rest = put_lost (suc k) none (puts_from setup flow s (suc (suc k)) n ++ more) (omega arith) lost (whole-lossy (suc k) w) rest
      go false lost rest =
          put-seen (suc k) none none (refused 8) false (puts_from setup flow s (suc (suc k)) n ++ more) (omega arith) lost (at_closed setup flow ranges s fair k (omega arith))
          (sym (whole-lossy (suc k) w)) rest

  -- Something lost, before k or from k on: nothing is delivered, and the flow may stay open.
  tail_short : (n k : ℕ) (p : PDU) → suc k + suc n ≡ packet_count setup.mtu s → is_whole setup.mtu s ≡ false → length p.bytes ≤ suc k * setup.mtu
      → (length p.bytes < suc k * setup.mtu) ⊎ (0 < losses_from s.lost (suc k) (suc n)) → ((o : Option PDU) → Good' o more)
      → Good' (some p) (puts_from setup flow s (suc k) (suc n) ++ more)
  tail_short zero k p e w le why g = go (is_lost s (suc k)) refl why
    where
      last : suc (suc k) ≡ packet_count setup.mtu s
      last = omega arith

      go : (b : Bool) → is_lost s (suc k) ≡ b → (length p.bytes < suc k * setup.mtu) ⊎ (0 < cond b 1 0 + 0) → Good' (some p) (put (suc k) ∷ more)
      go true lost y = put_lost (suc k) (some p) more (omega arith) lost (whole-lossy (suc k) w) (g (some p))
      go false lost (inl short) =
          let size = last_size setup flow ranges s fair (suc k) last in
          put-seen (suc k) (some p) none (refused 11) true more (omega arith) lost
          (at_last_wrong setup flow ranges s fair k p last (omega (arith, fair.fits)) (λ t. omega arith))
          (sym (whole-lossy (suc k) w)) (g none)
      go false lost (inr none_left) = absurd (omega arith)
  tail_short (suc n) k p e w le why g =
      go (is_lost s (suc k)) refl why
      (λ y. tail_short n (suc k) p (omega arith) w (omega (arith, mtu_pos setup flow ranges s fair)) y g)
      (λ y. tail_short n (suc k) longer (omega arith) w (omega (arith, longer_is)) y g)
    where
      inner : suc (suc k) < packet_count setup.mtu s
      inner = omega arith

      others : List Put
      others = puts_from setup flow s (suc (suc k)) (suc n) ++ more

      longer : PDU
      longer = pdu p.stream (p.bytes ++ segment_data setup.mtu s.pdu.bytes (suc k))

      longer_is : length longer.bytes ≡ length p.bytes + setup.mtu
      longer_is = length-append p.bytes (segment_data setup.mtu s.pdu.bytes (suc k)) ∙ ap (λ (x : ℕ). length p.bytes + x) (inner_size setup flow ranges s fair (suc k) inner).1

      Why : PDU → Type 0
      Why q = (length q.bytes < suc (suc k) * setup.mtu) ⊎ (0 < losses_from s.lost (suc (suc k)) (suc n))

      go : (b : Bool) → is_lost s (suc k) ≡ b → (length p.bytes < suc k * setup.mtu) ⊎ (0 < cond b 1 0 + losses_from s.lost (suc (suc k)) (suc n))
          → (Why p → Good' (some p) (puts_from setup flow s (suc (suc k)) (suc n) ++ more))
          → (Why longer → Good' (some longer) (puts_from setup flow s (suc (suc k)) (suc n) ++ more))
          → Good' (some p) (put (suc k) ∷ (puts_from setup flow s (suc (suc k)) (suc n) ++ more))
      go true lost y as_was with_it = put_lost (suc k) (some p) others (omega arith) lost (whole-lossy (suc k) w) (as_was (inl (omega (arith, mtu_pos setup flow ranges s fair))))
      go false lost y as_was with_it =
          let size = inner_size setup flow ranges s fair (suc k) inner in
          put-seen (suc k) (some p) (some longer) held false others (omega arith) lost
          (at_inner setup flow ranges s fair k p inner (omega (arith, fair.fits)))
          (sym (whole-lossy (suc k) w)) (with_it (still y))
        where
          still : (length p.bytes < suc k * setup.mtu) ⊎ (0 < cond false 1 0 + losses_from s.lost (suc (suc k)) (suc n)) → Why longer
          still (inl short) = inl (omega (arith, longer_is))
          still (inr some_lost) = inr (omega arith)

  -- A PDU that lost nothing is delivered, whatever came before, and leaves the flow closed.
  -- what a start leaves
  begun : PDU
  begun = pdu s.pdu.stream (take (1 * setup.mtu) s.pdu.bytes)

  pub whole_in : is_whole setup.mtu s ≡ true → Good' none more → (o : Option PDU) → Good' o (puts_from setup flow s 0 (packet_count setup.mtu s) ++ more)
  unfolding begun
  whole_in w g o = go (packet_count setup.mtu s) refl (eqb-true (losses setup.mtu s) 0 w)
    where
      go : (c : ℕ) → c ≡ packet_count setup.mtu s → losses_from s.lost 0 c ≡ 0 → Good' o (puts_from setup flow s 0 c ++ more)
      go zero e l = absurd (omega (arith, some-packet setup flow ranges s fair))
      go (suc zero) e l =
          put-seen 0 o none (delivered s.pdu) (is_open o) more (omega arith) (none_lost s.lost 0 0 l).0 (at-single setup flow ranges s fair o e) (sym (whole_last 0 e w)) g
      go (suc (suc n)) e l =
          put-seen 0 o (some begun) held (is_open o) (puts_from setup flow s 1 (suc n) ++ more) (omega arith) (none_lost s.lost 0 (suc n) l).0 (at-start setup flow ranges s fair o (omega arith))
          (sym (whole_inner 0 (omega arith)))
          (tail-whole n 0 (omega arith) w (none_lost s.lost 0 (suc n) l).1 g)

  -- A PDU that lost something is not delivered, if the flow is closed before it or its first packet arrives.
  pub short_in : is_whole setup.mtu s ≡ false → ((o : Option PDU) → Good' o more) → (o : Option PDU) → (o ≡ none) ⊎ (is_lost s 0 ≡ false)
      → Good' o (puts_from setup flow s 0 (packet_count setup.mtu s) ++ more)
  unfolding begun
  short_in w g o why = go (packet_count setup.mtu s) refl (is_lost s 0) refl why (let ne = eqb-false (losses setup.mtu s) 0 w in omega arith)
    where
      go : (c : ℕ) → c ≡ packet_count setup.mtu s → (b : Bool) → is_lost s 0 ≡ b → (o ≡ none) ⊎ (is_lost s 0 ≡ false) → 0 < losses_from s.lost 0 c
          → Good' o (puts_from setup flow s 0 c ++ more)
      go zero e b lost y l = absurd (omega arith)
      go (suc n) e true lost (inr arrives) l = absurd (false≢true (sym arrives ∙ lost))
      go (suc n) e true lost (inl closed) l =
          rw closed (put_lost 0 none (puts_from setup flow s 1 n ++ more) (omega arith) lost (whole-lossy 0 w) (tail_closed n 0 (omega arith) w (g none)))
      go (suc zero) e false lost y l = absurd (let none_left = rw lost at l in omega arith)
      go (suc (suc n)) e false lost y l =
          let inner : 1 < packet_count setup.mtu s = omega arith in
          let size = inner_size setup flow ranges s fair 0 inner in
          put-seen 0 o (some begun) held (is_open o) (puts_from setup flow s 1 (suc n) ++ more) (omega arith) lost (at-start setup flow ranges s fair o inner) (sym (whole-lossy 0 w))
          (tail_short n 0 begun (omega arith) w (omega (arith, length-take-le (1 * setup.mtu) s.pdu.bytes (omega arith))) (inr (let later = rw lost at l in omega arith)) g)

-- ---- A flow's PDUs, of which no two neighbours both lost something

-- the first, if there is one, lost nothing
abbrev FirstWhole : ℕ → List Sent → Type 0
FirstWhole mtu [] = Unit {0}
FirstWhole mtu (s ∷ ss) = is_whole mtu s ≡ true

apart_tail : (mtu : ℕ) (s : Sent) (ss : List Sent) → OneOfTwoWhole mtu (s ∷ ss) → OneOfTwoWhole mtu ss
apart_tail mtu s [] h = tt
apart_tail mtu s (s' ∷ ss) h = h.1

apart_first : (mtu : ℕ) (s : Sent) (ss : List Sent) → OneOfTwoWhole mtu (s ∷ ss) → is_whole mtu s ≡ false → FirstWhole mtu ss
apart_first mtu s [] h e = tt
apart_first mtu s (s' ∷ ss) h e = rw e at h.0

module _ (setup : Setup) (flow : Flow) (ranges : Ranges setup flow) where
  flow_good : (ss : List Sent) → Each (FairPDU setup.room) ss → OneOfTwoWhole setup.mtu ss → (o : Option PDU) → (o ≡ none) ⊎ FirstWhole setup.mtu ss
      → Good setup flow o (flow_puts setup flow ss)
  flow_good [] fair apart o why = tt
  flow_good (s ∷ ss) fair apart o why = go (is_whole setup.mtu s) refl why (λ o' why'. flow_good ss fair.1 (apart_tail setup.mtu s ss apart) o' why')
    where
      go : (b : Bool) → is_whole setup.mtu s ≡ b → (o ≡ none) ⊎ (is_whole setup.mtu s ≡ true)
          → ((o' : Option PDU) → (o' ≡ none) ⊎ FirstWhole setup.mtu ss → Good setup flow o' (flow_puts setup flow ss))
          → Good setup flow o (flow_puts setup flow (s ∷ ss))
      go true e w rest = whole_in setup flow ranges s fair.0 (flow_puts setup flow ss) e (rest none (inl refl)) o
      go false e (inl closed) rest =
          short_in setup flow ranges s fair.0 (flow_puts setup flow ss) e (λ o'. rest o' (inr (apart_first setup.mtu s ss apart e))) o (inl closed)
      go false e (inr w) rest = absurd (false≢true (sym e ∙ w))

  -- ONE FLOW. From closed, at each packet the endpoint delivers exactly the PDU that is whole with it.
  pub one_flow : (ss : List Sent) → Each (FairPDU setup.room) ss → OneOfTwoWhole setup.mtu ss → Good setup flow none (flow_puts setup flow ss)
  one_flow ss fair apart = flow_good ss fair apart none (inl refl)

-- Our endpoint meets the demands: the theorems of `sending` stand on laws between a flow and the endpoint, and `flows` shows that they hold.
use Prim.Native.Nat.{ℕ, zero, suc, ◌+◌, ◌*◌, ◌<◌}
use mathlib.Core.Path.{◌≡◌, refl, ap, ap₂, sym, ◌∙◌}
use mathlib.Core.List.{List, [], ◌∷◌, ◌++◌}
use native.Mathlib.Omega.{arith}
use lib.ListN.{length, length-replicate}
use borrow.Author.Tests.{le-ltb}
use Rattle.answers.specs.Answers.{Said}
use Rattle.wire.specs.declared.Flow.{Flow}
use Rattle.sizes.proofs.Laws.{mtu_fits}
use Rattle.refusal19.specs.Refusal19.{bad_room}
use Rattle.wire.specs.declared.Setup.{Setup}
use Rattle.wire.specs.Packet.{ids_of}
use Rattle.responses.specs.Type13.{response_size}
use Rattle.reading.specs.Desk.{Desk, state_on}
use Rattle.flows.specs.OneFlow.{pdu}
use Rattle.flows.specs.Deliveries.{read, delivery, delivered_by, delivered_on, deliveries}
use Rattle.flows.specs.Fresh.{Allowed, Fresh, zero_desk}
use Rattle.sending.specs.Sending.{Sent, packet_count, Ranges, FairPDU}
use Rattle.sending.specs.OfSendings.{packet_at, desk_at, ReadsBack}
use Rattle.sending.proofs.Steps.{count-pos}
use Rattle.sending.proofs.Rooms.{room_stays}
use Rattle.sending.proofs.Fresh.{fresh-begins, sending_begins}
use Rattle.sending.proofs.ReadBack.{read_back}
use Rattle.sending.proofs.Merge.{delivered_is_whole, delivered_at_every_turn}
use Rattle.sending.proofs.Joint.{joint_delivered}
use Rattle.sending.proofs.Untold.{packets_from}
use Rattle.demands.specs.Demands.{OursMeets, OurWriterMeets, FreshDeliversWhole}
use Rattle.demands.specs.OfCalls.{Corollary3}
use Rattle.demands.proofs.Widths.{fits_width}
use Rattle.demands.proofs.Writing.{ours_writes}
use Rattle.demands.proofs.Wider.{widest, same-packets, same_whole, wider}

pub ours_meets : OursMeets
ours_meets = record {
  demand2 = λ setup flow s d f ranges fair. read_back setup flow s d ranges fair (fresh-begins setup (flow ∷ []) d (omega arith) f);
  demand3 = λ setup d s f fair. delivered_is_whole setup s d f.allowed fair (sending_begins setup s d fair.sent_fairly f);
  joint = λ setup d flow first second f pair. joint_delivered setup flow first second d pair (fresh-begins setup (flow ∷ []) d (omega arith) f);
}

-- ---- One PDU, all its packets: nothing until the last, which delivers it

module _ (setup : Setup) (flow : Flow) (s : Sent) (d : Desk) (own_R : (state_on d).setup.room ≡ setup.room) (back : ReadsBack read setup flow s d) where
  at_R : (k : ℕ) → (state_on (desk_at read setup flow s d k)).setup.room ≡ setup.room
  at_R zero = own_R
  at_R (suc k) = room_stays (desk_at read setup flow s d k) (packet_at setup flow s k) ∙ at_R k

  from : (n k : ℕ) → k + suc n ≡ packet_count setup.mtu s → deliveries (desk_at read setup flow s d k) (packets_from setup flow s k (suc n)) ≡ delivery flow s.pdu ∷ []
  from zero k e =
      let h = back.last k (omega arith) in
      let here = desk_at read setup flow s d (suc k) in
      ap₂ (λ (r : ℕ) (says : Said). delivered_by r here.stream_memory says ++ []) (at_R (suc k)) h.answer
      ∙ ap (λ (bytes : List ℕ). delivery flow (pdu s.pdu.stream bytes) ∷ []) h.holds
  from (suc n) k e =
      let here = desk_at read setup flow s d (suc k) in
      ap (λ (says : Said). delivered_on here says ++ deliveries here (packets_from setup flow s (suc k) (suc n))) (back.each k (omega arith)) ∙ from n (suc k) (omega arith)

  all_packets : (count : ℕ) → packet_count setup.mtu s ≡ count → 0 < count → deliveries d (packets_from setup flow s 0 count) ≡ delivery flow s.pdu ∷ []
  all_packets zero e pos = absurd (omega arith)
  all_packets (suc n) e pos = from n 0 (omega arith)

pub one_PDU : (setup : Setup) (flow : Flow) (s : Sent) (d : Desk) → Fresh setup d → Ranges setup flow → FairPDU setup.room s
    → deliveries d (packets_from setup flow s 0 (packet_count setup.mtu s)) ≡ delivery flow s.pdu ∷ []
one_PDU setup flow s d f ranges fair =
    all_packets setup flow s d (fresh-begins setup (flow ∷ []) d (omega arith) f).own_R (ours_meets.demand2 setup flow s d f ranges fair)
    (packet_count setup.mtu s) refl (count-pos setup.mtu (length s.pdu.bytes) f.allowed.allowed_MTU fair.some_byte)

pub our_writer_meets : OurWriterMeets
our_writer_meets setup flow s d outs f ranges fair long =
    ap (deliveries d) (ours_writes setup flow s f.allowed (fits_width setup.narrow flow.source ranges.source) ranges.priority fair outs long (packet_count setup.mtu s) 0 (omega arith)) ∙ one_PDU setup flow s d f ranges fair

-- ---- Demand 3, stronger, and its corollary

pub fresh_delivers_whole : FreshDeliversWhole
fresh_delivers_whole setup d s f fair = delivered_at_every_turn setup s d f.allowed fair (sending_begins setup s d fair.sent_fairly f)

-- a desk of zeros is fresh
pub zeros-fresh : (setup : Setup) → Allowed setup → Fresh setup (zero_desk setup)
zeros-fresh setup allowed = record {
  allowed = allowed;
  words = refl;
  lends = record { rooms = length-replicate {A = ℕ} (16 * setup.room) 0; boxes = length-replicate {A = ℕ} 32768 0; reply = omega (arith, length-replicate {A = ℕ} (response_size (ids_of setup)) 0) };
}

-- the largest R asks no more of a sending, and holds every MTU
pub corollary3 : Corollary3
unfolding bad_room
corollary3 setup s s' id mtu most fair fair' e =
    let most_holds = mtu_fits setup.mtu mtu in
    let allowed : Allowed (widest setup) = record { device_ID = id; allowed_MTU = mtu; allowed_R = rw (le-ltb 65536 setup.mtu (omega (arith, most_holds.1))) } in
    let f = zeros-fresh (widest setup) allowed in
    sym (same_whole setup s)
    ∙ (sym (ours_meets.demand3 (widest setup) _ s f (wider setup most s fair))
    ∙ (ap (deliveries (zero_desk (widest setup))) (same-packets setup s ∙ (e ∙ sym (same-packets setup s')))
    ∙ (ours_meets.demand3 (widest setup) _ s' f (wider setup most s' fair') ∙ same_whole setup s')))

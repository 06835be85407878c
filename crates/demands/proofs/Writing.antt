-- The writer's calls: where no row refuses, the packet stands in the first bytes; and a call that says a length has left it there.
use Rattle.std.specs.Prelude.{Ok}
use Prim.Native.Nat.{ℕ, zero, suc, ◌+◌, ◌≤◌, ◌<◌}
use mathlib.Core.Path.{◌≡◌, refl, ap, ap₂, sym, ◌∙◌}
use mathlib.Core.Bool.{false, false≢true}
use mathlib.Core.List.{List, ◌∷◌}
use native.Mathlib.Omega.{arith}
use lib.ListN.{length, take, drop}
use lib.Seq.{take_at}
use borrow.Author.Tests.{ne_eqb, lt-ltb, le-ltb}
use Rattle.lists.specs.Bytes.{written}
use Rattle.lists.proofs.Written.{written_front}
use Rattle.answers.specs.Answers.{wrote, write_refused}
use Rattle.tables.specs.Refusals.{Verdict, refuse, accept, verdict}
use Rattle.wire.specs.declared.Flow.{Flow}
use Rattle.wire.specs.Packet.{too_wide}
use Rattle.sizes.specs.Sizes.{bad_mtu}
use Rattle.refusal19.proofs.Good.{good}
use Rattle.refusal19.proofs.Kept.{fresh-good}
use Rattle.wire.specs.declared.Setup.{Setup}
use Rattle.contexts.specs.State.{fresh}
use Rattle.cutting.specs.declared.Heading.{Heading}
use Rattle.cutting.specs.Cutting.{bad_size, segment_count, packet_of}
use Rattle.writing.specs.Writer.{Wrote, wrote_of, writer_table, writing, wrote_by, count_to_write, WritePromise}
use Rattle.flows.specs.Fresh.{Allowed}
use Rattle.sending.specs.Sending.{Sent, packet_count, heading_for, FairPDU}
use Rattle.sending.specs.OfSendings.{packet_at}
use Rattle.sending.proofs.Untold.{packets_from}
use Rattle.demands.specs.Writes.{Writes, written_all, write}
use Rattle.demands.specs.Demands.{stands_in, written_by}
use Rattle.demands.proofs.Widths.{fits_width}

-- a packet that is written into a buffer stands in its first bytes
in_front : (out packet : List ℕ) → take (length packet) (written out 0 packet) ≡ packet
in_front out packet = ap (take (length packet)) (written_front out packet) ∙ take_at packet (drop (length packet) out) (length packet) refl

-- a call that says a length leaves the packet there
wrote_packet : (out : List ℕ) (h : Heading) (mtu : ℕ) (bytes : List ℕ) (k size : ℕ) (left : List ℕ) → WritePromise out h mtu bytes k (Ok size) left
    → take size left ≡ packet_of h mtu bytes k
unfolding writing
wrote_packet out h mtu bytes k size left p = go (verdict (writer_table out h mtu bytes k)) p
  where
    packet : List ℕ
    packet = packet_of h mtu bytes k

    go : (v : Verdict) → wrote_of (wrote size) left ≡ wrote_by out packet v → take size left ≡ packet
    go (refuse number leaves) e =
        let says : wrote size ≡ write_refused number = ap (λ (w : Wrote). w.says) e in
        absurd (false≢true cc)
    go accept e =
        let says : wrote size ≡ wrote (length packet) = ap (λ (w : Wrote). w.says) e in
        let long : size ≡ length packet = cc in
        ap₂ take long (ap (λ (w : Wrote). w.out) e) ∙ in_front out packet

-- a PDU of 1 to 65,536 bytes is counted
counts : (mtu size : ℕ) → bad_mtu mtu ≡ false → 1 ≤ size → size ≤ 65536 → count_to_write mtu size ≡ segment_count mtu size
unfolding count_to_write bad_size
counts mtu size m some most = rw (m, ne_eqb size 0 (λ e. omega arith), le-ltb 65536 size most)

module _ (setup : Setup) (flow : Flow) (s : Sent) where
  pub calls_write : {k n : ℕ} {ps : List (List ℕ)} → Writes setup flow s k n ps → ps ≡ packets_from setup flow s k n
  calls_write written_all = refl
  calls_write {k = k} (write out left size promise rest) =
      ap₂ (λ (p : List ℕ) (ps : List (List ℕ)). p ∷ ps) (wrote_packet out (heading_for setup flow s) setup.mtu s.pdu.bytes k size left promise) (calls_write rest)

  -- a PDU that a room holds
  module _ (allowed : Allowed setup) (source : too_wide setup.narrow flow.source ≡ false) (priority : flow.priority ≤ 3) (fair : FairPDU setup.room s) where
    most : length s.pdu.bytes ≤ 65536
    most = omega (arith, fair.fits, (good (fresh setup) (fresh-good setup allowed.allowed_MTU allowed.allowed_R)).room)

    pub counted : count_to_write setup.mtu (length s.pdu.bytes) ≡ packet_count setup.mtu s
    counted = counts setup.mtu (length s.pdu.bytes) allowed.allowed_MTU fair.some_byte most

    -- a buffer that 16 allows
    pub written_well : (out : List ℕ) (k : ℕ) → k < packet_count setup.mtu s → length (packet_at setup flow s k) ≤ length out
        → wrote_of (wrote (length (packet_at setup flow s k))) (written out 0 (packet_at setup flow s k))
        ≡ writing out (heading_for setup flow s) setup.mtu s.pdu.bytes k
    unfolding writing writer_table verdict bad_size
    written_well out k below long =
        let some : length s.pdu.bytes ≡ 0 → ⊥ = λ e. omega (arith, fair.some_byte) in
        rw (
          fits_width setup.narrow setup.device allowed.device_ID,
          source,
          allowed.allowed_MTU,
          le-ltb 3 _ priority,
          ne_eqb (length s.pdu.bytes) 0 some,
          le-ltb 65536 (length s.pdu.bytes) most,
          lt-ltb k (segment_count setup.mtu (length s.pdu.bytes)) below,
          le-ltb (length out) (length (packet_at setup flow s k)) long,
        )

    pub ours_writes : (outs : ℕ → List ℕ) → ((k : ℕ) → length (packet_at setup flow s k) ≤ length (outs k)) → (n k : ℕ) → k + n ≡ packet_count setup.mtu s
        → written_by writing setup flow s outs k n ≡ packets_from setup flow s k n
    ours_writes outs long zero k e = refl
    ours_writes outs long (suc n) k e =
        let w = written_well (outs k) k (omega arith) (long k) in
        ap₂ (λ (p : List ℕ) (ps : List (List ℕ)). p ∷ ps) (ap (λ (x : Wrote). stands_in x.says x.out) (sym w) ∙ in_front (outs k) (packet_at setup flow s k))
        (ours_writes outs long n (suc k) (omega arith))

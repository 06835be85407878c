-- What the one-flow endpoint does at each kind of segment, and then at packet k of a PDU.
use Prim.Native.Nat.{ℕ, zero, suc, ◌+◌, ◌-◌, ◌*◌, ◌≤◌, ◌<◌}
use mathlib.Core.Path.{◌≡◌, refl, sym, ap, ◌∙◌, subst}
use mathlib.Core.List.{List, ◌++◌}
use mathlib.Core.Bool.{Bool, true, false, false≢true}
use mathlib.Core.Option.{Option, none, some}
use native.Mathlib.Omega.{arith}
use native.Mathlib.Nat.{div-add-mod', mod-lt, zero-mul, suc-mul, zero-add}
use native.Mathlib.Decide.{dec_le, ℕ_discrete}
use lib.ListN.{length, take}
use lib.Seq.{take-add, take_all}
use lib.Dec.{ltb}
use borrow.Author.Tests.{eq-eqb, ne_eqb, le-ltb, lt-ltb, ltb-false}
use Rattle.lists.specs.Bytes.{AreBytes}
use Rattle.lists.proofs.Tests.{neither}
use Rattle.wire.specs.declared.Flow.{Flow}
use Rattle.wire.specs.Packet.{ids_of}
use Rattle.wire.specs.Type9.{segment_of}
use Rattle.sizes.specs.Sizes.{bad_mtu}
use Rattle.sizes.proofs.Laws.{mtu_fits}
use Rattle.wire.specs.Segment.{Segment}
use Rattle.wire.specs.Parsed.{Stream}
use Rattle.wire.specs.Parsed.{parsed}
use Rattle.stream_rooms.specs.Placing as placing
use Rattle.cutting.specs.Cutting.{segment_count, segment_data, is_first, is_final, packet_of}
use Rattle.writing.proofs.Sizes.{length_data}
use Rattle.refusal19.specs.Refusal19.{bad_room}
use Rattle.wire.specs.declared.Setup.{Setup}
use Rattle.flows.specs.OneFlow.{PDU, pdu, held, delivered, refused, FlowOutcome, flow_outcome, is_open, flow_step}
use Rattle.sending.specs.Segment.{cut_segment, segment_for, InRange, ReadsAs}
use Rattle.sending.specs.Sending.{Sent, packet_count, heading_for, FairPDU, Ranges}
use Rattle.sending.specs.OneFlow.{packet_step}
use Rattle.sending.proofs.Fields.{pdu_length_back}
use Rattle.sending.proofs.Cut.{cut-length, cut_well_formed, segment_of-cut, segments-read_back}

-- ---- A segment with the data d. Every one that passes row 6 has some

module _ (setup : Setup) (flow : Flow) (stream size : ℕ) (d : List ℕ) (some_byte : 0 < length d) where
  step-single : (o : Option PDU) → length d ≤ setup.mtu → flow_step setup o (cut_segment (ids_of setup) flow true true stream size (length d)) d ≡ flow_outcome none (delivered (pdu stream d)) (is_open o)
  unfolding flow_step
  step-single o fits = rw (cut_well_formed (ids_of setup) flow true true stream size (length d) some_byte, cut-length (ids_of setup) flow true true stream size (length d), le-ltb setup.mtu (length d) fits)

  step_start : (o : Option PDU) → length d ≡ setup.mtu → flow_step setup o (cut_segment (ids_of setup) flow true false stream size (length d)) d ≡ flow_outcome (some (pdu stream d)) held (is_open o)
  unfolding flow_step
  step_start o full = rw (cut_well_formed (ids_of setup) flow true false stream size (length d) some_byte, cut-length (ids_of setup) flow true false stream size (length d), eq-eqb (length d) setup.mtu full)

  step_continuation : (p : PDU) → length d ≡ setup.mtu → length p.bytes + length d ≤ setup.room
      → flow_step setup (some p) (cut_segment (ids_of setup) flow false false stream size (length d)) d ≡ flow_outcome (some (pdu p.stream (p.bytes ++ d))) held false
  unfolding flow_step
  step_continuation p full fits =
      rw (
        cut_well_formed (ids_of setup) flow false false stream size (length d) some_byte,
        cut-length (ids_of setup) flow false false stream size (length d),
        eq-eqb (length d) setup.mtu full,
        le-ltb setup.room (length p.bytes + length d) fits,
      )

  -- row 8
  step_closed : (final : Bool) → (final ≡ true → length d ≤ setup.mtu) → (final ≡ false → length d ≡ setup.mtu)
      → flow_step setup none (cut_segment (ids_of setup) flow false final stream size (length d)) d ≡ flow_outcome none (refused 8) false
  unfolding flow_step
  step_closed true fits full = rw (cut_well_formed (ids_of setup) flow false true stream size (length d) some_byte, cut-length (ids_of setup) flow false true stream size (length d), le-ltb setup.mtu (length d) (fits refl))
  step_closed false fits full = rw (cut_well_formed (ids_of setup) flow false false stream size (length d) some_byte, cut-length (ids_of setup) flow false false stream size (length d), eq-eqb (length d) setup.mtu (full refl))

  -- row 9
  step-over : (p : PDU) (final : Bool) → (final ≡ true → length d ≤ setup.mtu) → (final ≡ false → length d ≡ setup.mtu) → setup.room < length p.bytes + length d
      → flow_step setup (some p) (cut_segment (ids_of setup) flow false final stream size (length d)) d ≡ flow_outcome none (refused 9) true
  unfolding flow_step
  step-over p true fits full over =
      rw (
        cut_well_formed (ids_of setup) flow false true stream size (length d) some_byte,
        cut-length (ids_of setup) flow false true stream size (length d),
        le-ltb setup.mtu (length d) (fits refl),
        lt-ltb setup.room (length p.bytes + length d) over,
      )
  step-over p false fits full over =
      rw (
        cut_well_formed (ids_of setup) flow false false stream size (length d) some_byte,
        cut-length (ids_of setup) flow false false stream size (length d),
        eq-eqb (length d) setup.mtu (full refl),
        lt-ltb setup.room (length p.bytes + length d) over,
      )

  module _ (some_size : 1 ≤ size) (most : size ≤ 65536) where
    step_end : (p : PDU) → length d ≤ setup.mtu → length p.bytes + length d ≤ setup.room → length p.bytes + length d ≡ size
        → flow_step setup (some p) (cut_segment (ids_of setup) flow false true stream size (length d)) d ≡ flow_outcome none (delivered (pdu p.stream (p.bytes ++ d))) false
    unfolding flow_step
    step_end p fits room e =
        rw (
          cut_well_formed (ids_of setup) flow false true stream size (length d) some_byte,
          cut-length (ids_of setup) flow false true stream size (length d),
          le-ltb setup.mtu (length d) fits,
          le-ltb setup.room (length p.bytes + length d) room,
          pdu_length_back size some_size most,
          eq-eqb (length p.bytes + length d) size e,
        )

    -- row 11
    step_end_wrong : (p : PDU) → length d ≤ setup.mtu → length p.bytes + length d ≤ setup.room → (length p.bytes + length d ≡ size → ⊥)
        → flow_step setup (some p) (cut_segment (ids_of setup) flow false true stream size (length d)) d ≡ flow_outcome none (refused 11) true
    unfolding flow_step
    step_end_wrong p fits room ne =
        rw (
          cut_well_formed (ids_of setup) flow false true stream size (length d) some_byte,
          cut-length (ids_of setup) flow false true stream size (length d),
          le-ltb setup.mtu (length d) fits,
          le-ltb setup.room (length p.bytes + length d) room,
          pdu_length_back size some_size most,
          ne_eqb (length p.bytes + length d) size ne,
        )

-- ---- Packet k of a PDU

-- the count is the size over the MTU, rounded up
count_bounds : (mtu size : ℕ) → 0 < mtu → (segment_count mtu size * mtu < size + mtu) × (size ≤ segment_count mtu size * mtu)
unfolding segment_count
count_bounds mtu size pos = (omega (arith, div-add-mod' (size + (mtu - 1)) mtu, mod-lt (size + (mtu - 1)) pos), omega (arith, div-add-mod' (size + (mtu - 1)) mtu, mod-lt (size + (mtu - 1)) pos))

-- a PDU with a byte makes a packet
pub count-pos : (mtu size : ℕ) → bad_mtu mtu ≡ false → 1 ≤ size → 0 < segment_count mtu size
count-pos mtu size allowed some_byte = let m = mtu_fits mtu allowed in go (segment_count mtu size) refl (count_bounds mtu size (omega arith)).1
  where
    go : (c : ℕ) → segment_count mtu size ≡ c → size ≤ segment_count mtu size * mtu → 0 < c
    go zero e le = absurd (omega (arith, subst (λ (x : ℕ). size ≤ x * mtu) e le))
    go (suc c) e le = omega arith

module _ (setup : Setup) (flow : Flow) (ranges : Ranges setup flow) (s : Sent) (fair : FairPDU setup.room s) where
  abbrev bytes : List ℕ
  bytes = s.pdu.bytes

  abbrev packet : ℕ → List ℕ
  packet k = packet_of (heading_for setup flow s) setup.mtu s.pdu.bytes k

  in_range : InRange (heading_for setup flow s)
  in_range = record { destination = ranges.allowed.device_ID; source = ranges.source; cos = ranges.cos; stream = fair.stream; priority = ranges.priority }

  -- 19 allows an R of 65,536 at most
  most_R : setup.room ≤ 65536
  unfolding bad_room
  most_R = ltb-false 65536 setup.room (neither (ltb setup.room setup.mtu) (ltb 65536 setup.room) ranges.allowed.allowed_R).1

  pub mtu_pos : 0 < setup.mtu
  mtu_pos = let m = mtu_fits setup.mtu ranges.allowed.allowed_MTU in omega arith

  reads_as : (k : ℕ) → k < packet_count setup.mtu s
      → ReadsAs (heading_for setup flow s) setup.mtu bytes k (packet k) (segment_for (heading_for setup flow s) setup.mtu bytes k)
  reads_as k below =
      segments-read_back (heading_for setup flow s) setup.mtu bytes k (record {
        heading = in_range;
        allowed = ranges.allowed.allowed_MTU;
        bytes = fair.bytes;
        some_byte = omega (arith, fair.some_byte);
        size = omega (arith, fair.fits, most_R);
        segment = below;
      })

  segment_is : (k : ℕ) → segment_of (ids_of setup) (packet k) ≡ segment_for (heading_for setup flow s) setup.mtu bytes k
  segment_is k = segment_of-cut (heading_for setup flow s) setup.mtu bytes k in_range

  pub packet-read : (k : ℕ) → k < packet_count setup.mtu s → parsed setup (packet k) ≡ Stream (segment_of (ids_of setup) (packet k))
  packet-read k below = (reads_as k below).read setup refl refl ∙ ap Stream (sym (segment_is k))

  pub packet_bytes : (k : ℕ) → k < packet_count setup.mtu s → AreBytes (packet k)
  packet_bytes k below = (reads_as k below).are_bytes

  pub packet_flow : (k : ℕ) → (segment_of (ids_of setup) (packet k)).flow ≡ flow
  packet_flow k = ap (λ (g : Segment). g.flow) (segment_is k)

  -- the step, by S and E
  step_is : (k : ℕ) (first final : Bool) (o : Option PDU) → k < packet_count setup.mtu s → is_first k ≡ first → is_final setup.mtu bytes k ≡ final
      → packet_step setup o (packet k) ≡ flow_step setup o (cut_segment (ids_of setup) flow first final s.pdu.stream (length bytes) (length (segment_data setup.mtu bytes k))) (segment_data setup.mtu bytes k)
  step_is k first final o below e e' =
      ap (λ (g : Segment). flow_step setup o g (placing.data_of (packet k) g)) (segment_is k)
      ∙ ap (flow_step setup o (segment_for (heading_for setup flow s) setup.mtu bytes k)) (reads_as k below).data_of_lem
      ∙ rw (e, e')

  -- which is first, and which last; what each holds
  first-is : is_first 0 ≡ true
  unfolding is_first
  first-is = refl

  later_is : (k : ℕ) → is_first (suc k) ≡ false
  unfolding is_first
  later_is k = ne_eqb (suc k) 0 (λ e. omega arith)

  pub final_is : (k : ℕ) → suc k ≡ packet_count setup.mtu s → is_final setup.mtu bytes k ≡ true
  unfolding is_final
  final_is k e = eq-eqb (k + 1) (packet_count setup.mtu s) (omega arith)

  pub inner_is : (k : ℕ) → suc k < packet_count setup.mtu s → is_final setup.mtu bytes k ≡ false
  unfolding is_final
  inner_is k h = ne_eqb (k + 1) (packet_count setup.mtu s) (λ e. omega arith)

  bounds : (packet_count setup.mtu s * setup.mtu < length bytes + setup.mtu) × (length bytes ≤ packet_count setup.mtu s * setup.mtu)
  bounds = count_bounds setup.mtu (length bytes) mtu_pos

  pub some-packet : 0 < packet_count setup.mtu s
  some-packet = count-pos setup.mtu (length bytes) ranges.allowed.allowed_MTU (omega (arith, fair.some_byte))

  -- the last holds what is left, 1 to MTU
  pub last_size : (k : ℕ) → suc k ≡ packet_count setup.mtu s
      → (k * setup.mtu < length bytes) × (length bytes ≤ k * setup.mtu + setup.mtu) × (length (segment_data setup.mtu bytes k) + k * setup.mtu ≡ length bytes)
  last_size k e =
      let b = subst (λ (x : ℕ). (x * setup.mtu < length bytes + setup.mtu) × (length bytes ≤ x * setup.mtu)) (sym e) bounds in
      let l = length_data setup.mtu bytes k in
      (omega arith, omega arith, omega arith)

  -- every other holds MTU bytes, and more follow
  pub inner_size : (k : ℕ) → suc k < packet_count setup.mtu s → (k * setup.mtu + setup.mtu < length bytes) × (length (segment_data setup.mtu bytes k) ≡ setup.mtu)
  inner_size k h = go (packet_count setup.mtu s - suc (suc k)) (omega arith)
    where
      go : (m : ℕ) → packet_count setup.mtu s ≡ suc (suc (k + m)) → (k * setup.mtu + setup.mtu < length bytes) × (length (segment_data setup.mtu bytes k) ≡ setup.mtu)
      go m e =
          let b = subst (λ (x : ℕ). (x * setup.mtu < length bytes + setup.mtu) × (length bytes ≤ x * setup.mtu)) e bounds in
          let l = length_data setup.mtu bytes k in
          let more : k * setup.mtu + setup.mtu < length bytes = omega arith in
          (more, omega arith)

  size_most : length bytes ≤ 65536
  size_most = omega (arith, fair.fits, most_R)

  -- how much data: at most MTU at the last, MTU at every other
  data_fits : (k : ℕ) (final : Bool) → k < packet_count setup.mtu s → is_final setup.mtu bytes k ≡ final
      → (0 < length (segment_data setup.mtu bytes k)) × (final ≡ true → length (segment_data setup.mtu bytes k) ≤ setup.mtu)
      × (final ≡ false → length (segment_data setup.mtu bytes k) ≡ setup.mtu)
  data_fits k final below e = go (ℕ_discrete (suc k) (packet_count setup.mtu s))
    where
      go : Dec (suc k ≡ packet_count setup.mtu s)
          → (0 < length (segment_data setup.mtu bytes k)) × (final ≡ true → length (segment_data setup.mtu bytes k) ≤ setup.mtu)
          × (final ≡ false → length (segment_data setup.mtu bytes k) ≡ setup.mtu)
      go (yes l) = let z = last_size k l in (omega arith, λ t. omega arith, λ t. absurd (false≢true (sym t ∙ sym e ∙ final_is k l)))
      go (no n) = let z = inner_size k (omega arith) in let pos = mtu_pos in (omega arith, λ t. omega arith, λ t. omega arith)

  -- what came up to packet k, and its data behind it
  pub data_behind : (k : ℕ) → take (k * setup.mtu) bytes ++ segment_data setup.mtu bytes k ≡ take (suc k * setup.mtu) bytes
  unfolding segment_data
  data_behind k = sym (ap (λ (n : ℕ). take n bytes) (suc-mul k setup.mtu) ∙ take-add (k * setup.mtu) setup.mtu bytes)

  pub data_first : segment_data setup.mtu bytes 0 ≡ take (1 * setup.mtu) bytes
  unfolding segment_data
  data_first = rw (zero-mul setup.mtu, suc-mul 0 setup.mtu, zero-mul setup.mtu) (simp zero-add)

  pub all_taken : (k : ℕ) → suc k ≡ packet_count setup.mtu s → take (suc k * setup.mtu) bytes ≡ bytes
  all_taken k e = let z = last_size k e in take_all (suc k * setup.mtu) bytes (omega arith)

  pub at-single : (o : Option PDU) → 1 ≡ packet_count setup.mtu s → packet_step setup o (packet 0) ≡ flow_outcome none (delivered s.pdu) (is_open o)
  at-single o e =
      let f = data_fits 0 true (omega arith) (final_is 0 e) in
      step_is 0 true true o (omega arith) first-is (final_is 0 e)
      ∙ step-single setup flow s.pdu.stream (length bytes) (segment_data setup.mtu bytes 0) f.0 o (f.1 refl)
      ∙ ap (λ (l : List ℕ). flow_outcome none (delivered (pdu s.pdu.stream l)) (is_open o)) (data_first ∙ all_taken 0 e)

  pub at-start : (o : Option PDU) → 1 < packet_count setup.mtu s → packet_step setup o (packet 0) ≡ flow_outcome (some (pdu s.pdu.stream (take (1 * setup.mtu) bytes))) held (is_open o)
  at-start o h =
      let f = data_fits 0 false (omega arith) (inner_is 0 h) in
      step_is 0 true false o (omega arith) first-is (inner_is 0 h)
      ∙ step_start setup flow s.pdu.stream (length bytes) (segment_data setup.mtu bytes 0) f.0 o (f.2 refl)
      ∙ ap (λ (l : List ℕ). flow_outcome (some (pdu s.pdu.stream l)) held (is_open o)) data_first

  pub at_inner : (k : ℕ) (p : PDU) → suc (suc k) < packet_count setup.mtu s → length p.bytes + setup.mtu ≤ setup.room
      → packet_step setup (some p) (packet (suc k)) ≡ flow_outcome (some (pdu p.stream (p.bytes ++ segment_data setup.mtu bytes (suc k)))) held false
  at_inner k p h room =
      let f = data_fits (suc k) false (omega arith) (inner_is (suc k) h) in
      let full = f.2 refl in
      step_is (suc k) false false (some p) (omega arith) (later_is k) (inner_is (suc k) h)
      ∙ step_continuation setup flow s.pdu.stream (length bytes) (segment_data setup.mtu bytes (suc k)) f.0 p full (omega arith)

  pub at_last : (k : ℕ) (p : PDU) → suc (suc k) ≡ packet_count setup.mtu s → length p.bytes ≡ suc k * setup.mtu
      → packet_step setup (some p) (packet (suc k)) ≡ flow_outcome none (delivered (pdu p.stream (p.bytes ++ segment_data setup.mtu bytes (suc k)))) false
  at_last k p e l =
      let f = data_fits (suc k) true (omega arith) (final_is (suc k) e) in
      let z = last_size (suc k) e in
      step_is (suc k) false true (some p) (omega arith) (later_is k) (final_is (suc k) e)
      ∙ step_end setup flow s.pdu.stream (length bytes) (segment_data setup.mtu bytes (suc k)) f.0 fair.some_byte size_most p (f.1 refl) (omega (arith, fair.fits)) (omega arith)

  pub at_last_wrong : (k : ℕ) (p : PDU) → suc (suc k) ≡ packet_count setup.mtu s → length p.bytes + length (segment_data setup.mtu bytes (suc k)) ≤ setup.room
      → (length p.bytes ≡ suc k * setup.mtu → ⊥)
      → packet_step setup (some p) (packet (suc k)) ≡ flow_outcome none (refused 11) true
  at_last_wrong k p e room ne =
      let f = data_fits (suc k) true (omega arith) (final_is (suc k) e) in
      let z = last_size (suc k) e in
      step_is (suc k) false true (some p) (omega arith) (later_is k) (final_is (suc k) e)
      ∙ step_end_wrong setup flow s.pdu.stream (length bytes) (segment_data setup.mtu bytes (suc k)) f.0 fair.some_byte size_most p (f.1 refl) room (λ t. ne (omega arith))

  pub at_closed : (k : ℕ) → suc k < packet_count setup.mtu s → packet_step setup none (packet (suc k)) ≡ flow_outcome none (refused 8) false
  at_closed k h = go (is_final setup.mtu bytes (suc k)) refl
    where
      go : (final : Bool) → is_final setup.mtu bytes (suc k) ≡ final → packet_step setup none (packet (suc k)) ≡ flow_outcome none (refused 8) false
      go final e =
          let f = data_fits (suc k) final h e in
          step_is (suc k) false final none h (later_is k) e
          ∙ step_closed setup flow s.pdu.stream (length bytes) (segment_data setup.mtu bytes (suc k)) f.0 final f.1 f.2

  pub at-over : (k : ℕ) (p : PDU) → suc k < packet_count setup.mtu s → setup.room < length p.bytes + length (segment_data setup.mtu bytes (suc k))
      → packet_step setup (some p) (packet (suc k)) ≡ flow_outcome none (refused 9) true
  at-over k p h over = go (is_final setup.mtu bytes (suc k)) refl
    where
      go : (final : Bool) → is_final setup.mtu bytes (suc k) ≡ final → packet_step setup (some p) (packet (suc k)) ≡ flow_outcome none (refused 9) true
      go final e =
          let f = data_fits (suc k) final h e in
          step_is (suc k) false final (some p) h (later_is k) e
          ∙ step-over setup flow s.pdu.stream (length bytes) (segment_data setup.mtu bytes (suc k)) f.0 p final f.1 f.2 over

  -- an end or single leaves the flow closed, whatever came before
  pub last_closes : (k : ℕ) (o : Option PDU) → suc k ≡ packet_count setup.mtu s → (packet_step setup o (packet k)).next ≡ none
  last_closes zero o e = ap (λ (x : FlowOutcome). x.next) (at-single o e)
  last_closes (suc k) none e = ap (λ (x : FlowOutcome). x.next) (at_closed k (omega arith))
  last_closes (suc k) (some p) e = go (dec_le (length p.bytes + length (segment_data setup.mtu bytes (suc k))) setup.room) (ℕ_discrete (length p.bytes) (suc k * setup.mtu))
    where
      go : Dec (length p.bytes + length (segment_data setup.mtu bytes (suc k)) ≤ setup.room) → Dec (length p.bytes ≡ suc k * setup.mtu)
          → (packet_step setup (some p) (packet (suc k))).next ≡ none
      go (no over) d = ap (λ (x : FlowOutcome). x.next) (at-over k p (omega arith) (omega arith))
      go (yes room) (yes l) = ap (λ (x : FlowOutcome). x.next) (at_last k p e l)
      go (yes room) (no ne) = ap (λ (x : FlowOutcome). x.next) (at_last_wrong k p e room ne)

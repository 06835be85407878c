-- A segment that the writer cuts is read as itself. By cases on S and E, since only a continuation has no field.
use Prim.Native.Nat.{ℕ, ◌+◌, ◌-◌, ◌*◌, ◌/◌, ◌%◌, ◌<◌}
use mathlib.Core.Path.{◌≡◌, refl, sym, ap, ap₂, ◌∙◌, subst, subst₂}
use mathlib.Core.List.{List, ◌∷◌, ◌++◌}
use mathlib.Core.Bool.{Bool, true, false, cond, not, ◌||◌, ◌&&◌}
use native.Mathlib.Omega.{arith}
use lib.ListN.{length, take, drop, length-append}
use lib.Seq.{take-append_seam}
use lib.Dec.{eqb}
use borrow.Author.Tests.{ltb-true, eqb-true, eqb-false, eq-eqb, ne_eqb, le-ltb}
use Rattle.lists.specs.Bytes.{byte, word, AreBytes}
use Rattle.lists.proofs.Tests.{◌and◌}
use Rattle.tables.specs.Refusals.{none}
use Rattle.wire.specs.declared.Setup.{Setup}
use Rattle.wire.specs.Packet.{header, priority, packet_type, destination, source, ids_of, tt_of, first_byte_of, addressed, tt as tt·of}
use Rattle.wire.specs.declared.Flow.{Flow}
use Rattle.wire.specs.Segment.{Segment}
use Rattle.wire.specs.Parsed.{Stream}
use Rattle.wire.specs.Type9.{cos, flags, flow_of, segment_at, segment_of}
use Rattle.sizes.specs.Sizes.{bad_mtu, data_length}
use Rattle.wire.specs.Head.{under, is9, head_rows}
use Rattle.wire.specs.Parsed.{parsed}
use Rattle.wire.proofs.Widths.{some_byte, two_bytes as two_bytes_most}
use Rattle.wire.proofs.Addressed.{length-addressed, drop-addressed, byte-addressed, word-addressed, byte-behind, destination-addressed, source-addressed, append-addressed}
use Rattle.wire.proofs.HeadLaws.{with_field, without_field, is_stream}
use Rattle.rules.specs.Segments.{malformed, wrong_form}
use Rattle.stream_rooms.specs.Placing as placing
use Rattle.cutting.specs.declared.Heading.{Heading}
use Rattle.cutting.specs.Cutting.{segment_count, segment_data, is_first, is_final, pad_of, flags_of, field_of, ids_for, packet_of}
use Rattle.sizes.proofs.Laws.{mtu_fits}
use Rattle.cutting.proofs.Pad.{length_pad}
use Rattle.writing.proofs.Sizes.{begins, length_data}
use Rattle.sending.specs.Segment.{cut_segment, heading_flow, segment_for, InRange, SegmentsReadBack}
use Rattle.sending.proofs.Fields.{FirstByte, Flags, bytes_append, bytes_cons, bytes_data, bytes_field, bytes_pad, bytes_addressed, first_byte, flags_of_lem, last_zero, pad-zero, pdu_length_back, two_bytes, two_bytes_mod}

-- ---- A packet with these flags and data

-- what stands behind its IDs
abbrev behind : Heading → (first final : Bool) → (size : ℕ) → List ℕ → List ℕ
behind h first final size bytes = h.cos ∷ flags_of first final (length bytes) ∷ (field_of first final h.stream size ++ bytes ++ pad_of (length bytes))

abbrev shape : Heading → (first final : Bool) → (size : ℕ) → List ℕ → List ℕ
shape h first final size bytes = addressed (ids_for h) (first_byte_of (ids_for h) h.priority 9) h.destination h.source (behind h first final size bytes)

abbrev segment : Heading → (first final : Bool) → (size : ℕ) → List ℕ → Segment
segment h first final size bytes = cut_segment (ids_for h) (heading_flow h) first final h.stream size (length bytes)

-- two segments are equal by their fields
by_fields : (b b' e e' o o' q q' : Bool) (k k' : Flow) (f f' from r r' : ℕ)
    → b ≡ b' → e ≡ e' → k ≡ k' → f ≡ f' → r ≡ r' → o ≡ o' → q ≡ q'
    → ◌≡◌ {A = Segment}
    (record { begins = b; ends = e; flow = k; field = f; from = from; raw = r; odd = o; pad = q })
    (record { begins = b'; ends = e'; flow = k'; field = f'; from = from; raw = r'; odd = o'; pad = q' })
by_fields b b' e e' o o' q q' k k' f f' from r r' eb ee ek ef er eo eq = rw (eb, ee, ek, ef, er, eo, eq)

-- the data and the pad
length-tail : (bytes : List ℕ) → length (bytes ++ pad_of (length bytes)) ≡ length bytes + length bytes % 2
length-tail bytes = length-append bytes (pad_of (length bytes)) ∙ ap (λ (x : ℕ). length bytes + x) (length_pad (length bytes))

-- the data without the pad
pub cut-length : (ids : ℕ) (flow : Flow) (first final : Bool) (stream size n : ℕ) → data_length (cut_segment ids flow first final stream size n) ≡ n
unfolding data_length
cut-length ids flow first final stream size n = go (eqb (n % 2) 1) refl
  where
    go : (b : Bool) → eqb (n % 2) 1 ≡ b → cond b (n + n % 2 - 1) (n + n % 2) ≡ n
    go true e = let z = eqb-true (n % 2) 1 e in omega arith
    go false e = let ne = eqb-false (n % 2) 1 e in omega arith

-- row 6 passes it
pub cut_well_formed : (ids : ℕ) (flow : Flow) (first final : Bool) (stream size n : ℕ) → 0 < n → malformed (cut_segment ids flow first final stream size n) ≡ false
unfolding malformed wrong_form
cut_well_formed ids flow first final stream size n some =
    let half : (n + n % 2) / 2 ≡ (n + 1) / 2 = omega arith in
    rw (ne_eqb (n + n % 2) 0 (λ e. omega arith), ne_eqb ((n + n % 2) % 2) 1 (λ e. omega arith), half) (go (eqb ((n + 1) / 2 % 2) 1))
  where
    go : (b : Bool) → cond b (not b) b ≡ false
    go true = refl
    go false = refl

module _ (h : Heading) (range : InRange h) (size : ℕ) (bytes : List ℕ) where
  abbrev ids : ℕ
  ids = ids_for h

  abbrev byte_0 : ℕ
  byte_0 = first_byte_of ids h.priority 9

  abbrev rest : (first final : Bool) → List ℕ
  rest first final = behind h first final size bytes

  -- byte 0, and the flags
  byte_0_is : FirstByte ids h.priority byte_0
  byte_0_is = first_byte ids h.priority (some_byte h.narrow) (two_bytes_most h.narrow) range.priority

  flags_are : (first final : Bool) → Flags first final (eqb ((length bytes + 1) / 2 % 2) 1) (eqb (length bytes % 2) 1) (flags ids (shape h first final size bytes))
  flags_are first final =
      subst (Flags first final (eqb ((length bytes + 1) / 2 % 2) 1) (eqb (length bytes % 2) 1))
      (sym (byte-addressed ids byte_0 h.destination h.source (rest first final) 1)) (flags_of_lem first final (length bytes))

  length_is : (first final : Bool) → length (shape h first final size bytes) ≡ header ids + length (rest first final)
  length_is first final = length-addressed ids byte_0 h.destination h.source (rest first final)

  -- the two bytes behind the flags, where they are a field
  field_at : (first final : Bool) → word (shape h first final size bytes) (header ids + 2) ≡ word (rest first final) 2
  field_at first final = word-addressed ids byte_0 h.destination h.source (rest first final) 2

  source_is : (first final : Bool) → source ids (shape h first final size bytes) ≡ h.source
  source_is first final = source-addressed ids byte_0 h.destination h.source (rest first final) range.source

  cos_is : (first final : Bool) → cos ids (shape h first final size bytes) ≡ h.cos
  cos_is first final = byte-behind ids byte_0 h.destination h.source (rest first final)

  priority_is : (first final : Bool) → priority (shape h first final size bytes) ≡ h.priority
  unfolding addressed
  priority_is first final = byte_0_is.of_priority

  flow_is : (first final : Bool) → flow_of ids (shape h first final size bytes) ≡ heading_flow h
  flow_is first final =
      ap₂ (λ (s c : ℕ). record { source = s; priority = priority (shape h first final size bytes); cos = c }) (source_is first final) (cos_is first final)
      ∙ ap (λ (n : ℕ). record { source = h.source; priority = n; cos = h.cos }) (priority_is first final)

  -- read, it is the segment
  is_segment_lem : (first final : Bool) → segment_of ids (shape h first final size bytes) ≡ segment h first final size bytes
  unfolding segment_at field_of
  is_segment_lem true final =
      let fl = flags_are true final in
      let t = length-tail bytes in
      let l = length_is true final in
      with_field ids (shape h true final size bytes) (rw fl.of_S)
      ∙ by_fields _ _ _ _ _ _ _ _ _ _ _ _ _ _ _ fl.of_S fl.of_E (flow_is true final) (field_at true final ∙ two_bytes h.stream range.stream) (omega arith) fl.of_O fl.of_P
  is_segment_lem false true =
      let fl = flags_are false true in
      let t = length-tail bytes in
      let l = length_is false true in
      with_field ids (shape h false true size bytes) (rw (fl.of_S, fl.of_E))
      ∙ by_fields _ _ _ _ _ _ _ _ _ _ _ _ _ _ _ fl.of_S fl.of_E (flow_is false true) (field_at false true ∙ two_bytes_mod size) (omega arith) fl.of_O fl.of_P
  is_segment_lem false false =
      let fl = flags_are false false in
      let t = length-tail bytes in
      let l = length_is false false in
      without_field ids (shape h false false size bytes) fl.of_S fl.of_E
      ∙ by_fields _ _ _ _ _ _ _ _ _ _ _ _ _ _ _ fl.of_S fl.of_E (flow_is false false) refl (omega arith) fl.of_O fl.of_P

  -- the rows of the head pass it
  of_9 : (first final : Bool) → is9 (shape h first final size bytes) ≡ true
  unfolding addressed
  of_9 first final = eq-eqb (packet_type (shape h first final size bytes)) 9 byte_0_is.of_type

  field_fits : (first final : Bool) → ((first || final) && under (header ids + 4) (shape h first final size bytes)) ≡ false
  unfolding field_of
  field_fits true final = le-ltb (length (shape h true final size bytes)) (header ids + 4) (omega (arith, length_is true final))
  field_fits false true = le-ltb (length (shape h false true size bytes)) (header ids + 4) (omega (arith, length_is false true))
  field_fits false false = refl

  tt_is : (first final : Bool) → tt·of (shape h first final size bytes) ≡ tt_of ids
  unfolding addressed
  tt_is first final = byte_0_is.of_tt

  passes : (first final : Bool) → none (head_rows h.destination ids (shape h first final size bytes))
  unfolding none head_rows
  passes first final =
      let fl = flags_are first final in
      let l = length_is first final in
      le-ltb (length (shape h first final size bytes)) (header ids) (omega arith)
      and (rw (eq-eqb (tt·of (shape h first final size bytes)) (tt_of ids) (tt_is first final)))
      and (rw (eq-eqb (destination ids (shape h first final size bytes)) h.destination (destination-addressed ids byte_0 h.destination h.source (rest first final) range.destination)))
      and (rw (of_9 first final))
      and le-ltb (length (shape h first final size bytes)) (header ids + 2) (omega arith)
      and (rw (of_9 first final, fl.of_xh))
      and (rw (of_9 first final, fl.of_S, fl.of_E) (field_fits first final))
      and tt

  is_parsed : (first final : Bool) (setup : Setup) → setup.device ≡ h.destination → ids_of setup ≡ ids → parsed setup (shape h first final size bytes) ≡ Stream (segment h first final size bytes)
  is_parsed first final setup d w =
      is_stream (shape h first final size bytes) setup
      (subst₂ (λ (device n : ℕ). none (head_rows device n (shape h first final size bytes))) (sym d) (sym w) (passes first final)) (of_9 first final)
      ∙ ap Stream (ap (λ (n : ℕ). segment_of n (shape h first final size bytes)) w ∙ is_segment_lem first final)

  -- its data
  is_data : (first final : Bool) → placing.data_of (shape h first final size bytes) (segment h first final size bytes) ≡ bytes
  unfolding field_of
  is_data first final =
      ap (λ (n : ℕ). take n (drop (cond (first || final) (header ids + 4) (header ids + 2)) (shape h first final size bytes))) (cut-length ids (heading_flow h) first final h.stream size (length bytes))
      ∙ go first final
    where
      from : (first final : Bool) (k : ℕ) → drop (header ids + k) (shape h first final size bytes) ≡ drop k (rest first final)
      from first final k = drop-addressed ids byte_0 h.destination h.source (rest first final) k

      go : (first final : Bool) → take (length bytes) (drop (cond (first || final) (header ids + 4) (header ids + 2)) (shape h first final size bytes)) ≡ bytes
      go true final = ap (take (length bytes)) (from true final 4) ∙ take-append_seam bytes (pad_of (length bytes))
      go false true = ap (take (length bytes)) (from false true 4) ∙ take-append_seam bytes (pad_of (length bytes))
      go false false = ap (take (length bytes)) (from false false 2) ∙ take-append_seam bytes (pad_of (length bytes))

  -- its last byte, where it has a pad
  is_pad_lem : (first final : Bool) → eqb (length bytes % 2) 1 ≡ true → byte (shape h first final size bytes) (length (shape h first final size bytes) - 1) ≡ 0
  is_pad_lem first final e =
      subst (λ (p : List ℕ). byte p (length p - 1) ≡ 0) (append-addressed ids byte_0 h.destination h.source unpadded (pad_of (length bytes)))
      (subst (λ (pad : List ℕ). byte (front ++ pad) (length (front ++ pad) - 1) ≡ 0) (sym (pad-zero (length bytes) e)) (last_zero front))
    where
      unpadded : List ℕ
      unpadded = h.cos ∷ flags_of first final (length bytes) ∷ (field_of first final h.stream size ++ bytes)

      front : List ℕ
      front = addressed ids byte_0 h.destination h.source unpadded

  -- every entry is a byte
  is_bytes : (first final : Bool) → AreBytes bytes → AreBytes (shape h first final size bytes)
  is_bytes first final all =
      let fl = flags_of_lem first final (length bytes) in
      let tail : List ℕ = field_of first final h.stream size ++ bytes ++ pad_of (length bytes) in
      let all_tail : AreBytes tail = bytes_append (field_of first final h.stream size ++ bytes) (pad_of (length bytes))
      (bytes_append (field_of first final h.stream size) bytes (bytes_field first final h.stream size) all) (bytes_pad (length bytes)) in
      bytes_addressed ids byte_0 h.destination h.source (rest first final) byte_0_is.is_byte
      (bytes_cons h.cos (flags_of first final (length bytes) ∷ tail) range.cos (bytes_cons (flags_of first final (length bytes)) tail (ltb-true _ 256 fl.is_byte) all_tail))

-- a segment that the PDU has holds a byte
pub some_data : (mtu : ℕ) (pdu : List ℕ) (k : ℕ) → bad_mtu mtu ≡ false → k < segment_count mtu (length pdu) → 0 < length (segment_data mtu pdu k)
some_data mtu pdu k allowed below =
    let m = mtu_fits mtu allowed in
    let b : k * mtu < length pdu = begins mtu (length pdu) k (omega arith) below in
    rw length_data (omega arith)

-- the segment of a packet that the writer cuts
pub segment_of-cut : (h : Heading) (mtu : ℕ) (pdu : List ℕ) (k : ℕ) → InRange h → segment_of (ids_for h) (packet_of h mtu pdu k) ≡ segment_for h mtu pdu k
unfolding packet_of
segment_of-cut h mtu pdu k range = is_segment_lem h range (length pdu) (segment_data mtu pdu k) (is_first k) (is_final mtu pdu k)

pub segments-read_back : SegmentsReadBack
unfolding packet_of
segments-read_back h mtu pdu k c =
    let bytes : List ℕ = segment_data mtu pdu k in
    let fl = flags_are h c.heading (length pdu) bytes (is_first k) (is_final mtu pdu k) in
    record {
      read = is_parsed h c.heading (length pdu) bytes (is_first k) (is_final mtu pdu k);
      priority = priority_is h c.heading (length pdu) bytes (is_first k) (is_final mtu pdu k);
      well-formed = cut_well_formed (ids_for h) (heading_flow h) (is_first k) (is_final mtu pdu k) h.stream (length pdu) (length bytes) (some_data mtu pdu k c.allowed c.segment);
      length_of_data = cut-length (ids_for h) (heading_flow h) (is_first k) (is_final mtu pdu k) h.stream (length pdu) (length bytes);
      data_of_lem = is_data h c.heading (length pdu) bytes (is_first k) (is_final mtu pdu k);
      pdu-length = λ e e'. rw (e, e') (pdu_length_back (length pdu) c.some_byte c.size);
      reserved = fl.reserved;
      pad = is_pad_lem h c.heading (length pdu) bytes (is_first k) (is_final mtu pdu k);
      are_bytes = is_bytes h c.heading (length pdu) bytes (is_first k) (is_final mtu pdu k) (bytes_data mtu pdu k c.bytes);
    }

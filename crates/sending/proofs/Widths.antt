-- What is cut for one width, at an endpoint of the other; and cut for both: by the laws of flows, of any packet.
use Prim.Native.Nat.{ℕ, ◌+◌, ◌/◌, ◌%◌, ◌≤◌, ◌<◌}
use mathlib.Core.Path.{◌≡◌, refl, ap, sym, ◌∙◌}
use mathlib.Core.List.{List, ◌∷◌, ◌++◌}
use native.Mathlib.Omega.{arith}
use lib.ListN.{length}
use Rattle.lists.proofs.Numbers.{number_two}
use Rattle.wire.specs.Packet.{header, tt as tt·of, tt_of, destination, source, id_bytes, first_byte_of, addressed}
use Rattle.wire.proofs.Widths.{some_byte, two_bytes, narrow_is}
use Rattle.wire.proofs.Addressed.{length-addressed, destination-addressed, source-addressed}
use Rattle.responses.specs.Type13.{response_size}
use Rattle.contexts.specs.State.{ids_in}
use Rattle.reading.specs.Desk.{Desk, state_on}
use Rattle.reading.specs.Table.{lent_refusal}
use Rattle.cutting.specs.declared.Heading.{Heading}
use Rattle.cutting.specs.Cutting.{segment_data, is_first, is_final, pad_of, flags_of, field_of, ids_for, packet_of}
use Rattle.flows.specs.Deliveries.{read}
use Rattle.flows.specs.Widths.{narrowed, with_width, narrowed_answer}
use Rattle.flows.proofs.Widths.{narrowed-addressed, first_narrowed, other_width_refused, same_but_for_ids}
use Rattle.sending.specs.Widths.{SegmentOfOtherWidthRefused, heading_with, SegmentsSameButForIDs}

module _ (h : Heading) (mtu : ℕ) (pdu : List ℕ) (k : ℕ) where
  -- what stands behind the IDs
  abbrev rest : List ℕ
  rest =
      h.cos
      ∷ flags_of (is_first k) (is_final mtu pdu k) (length (segment_data mtu pdu k))
      ∷ (field_of (is_first k) (is_final mtu pdu k) h.stream (length pdu) ++ segment_data mtu pdu k ++ pad_of (length (segment_data mtu pdu k)))

  abbrev cut : (ids : ℕ) → List ℕ
  cut ids = addressed ids (first_byte_of ids h.priority 9) h.destination h.source rest

  -- at least two bytes behind them
  long-cut : (ids : ℕ) → header ids + 2 ≤ length (cut ids)
  long-cut ids = omega (arith, length-addressed ids (first_byte_of ids h.priority 9) h.destination h.source rest)

  tt-cut : (ids : ℕ) → 1 ≤ ids → ids ≤ 2 → tt·of (cut ids) ≡ tt_of ids
  unfolding addressed
  tt-cut ids a b = let e : first_byte_of ids h.priority 9 / 16 % 4 ≡ tt_of ids = omega arith in e

  cut_is : packet_of h mtu pdu k ≡ cut (ids_for h)
  unfolding packet_of
  cut_is = refl

pub segment_of_other_width_refused : SegmentOfOtherWidthRefused
segment_of_other_width_refused h mtu pdu k d passed other =
    let here : ℕ = ids_in (state_on d) in
    let a = some_byte h.narrow in
    let b = two_bytes h.narrow in
    let a' = some_byte (state_on d).setup.narrow in
    let b' = two_bytes (state_on d).setup.narrow in
    let long : header here ≤ length (packet_of h mtu pdu k) = rw (cut_is h mtu pdu k) (omega (arith, long-cut h mtu pdu k (ids_for h))) in
    let same : tt·of (packet_of h mtu pdu k) ≡ tt_of (ids_for h) = ap tt·of (cut_is h mtu pdu k) ∙ tt-cut h mtu pdu k (ids_for h) a b in
    other_width_refused d (packet_of h mtu pdu k) passed long (λ e. other (omega (arith, same, e)))

module _ (h : Heading) (mtu : ℕ) (pdu : List ℕ) (k narrow : ℕ) where
  abbrev wide : List ℕ
  wide = packet_of (heading_with 0 h) mtu pdu k

  wide_cut : wide ≡ cut h mtu pdu k 2
  unfolding packet_of id_bytes
  wide_cut = refl

  slim_cut : (narrow ≡ 0 → ⊥) → packet_of (heading_with narrow h) mtu pdu k ≡ narrowed wide
  unfolding packet_of
  slim_cut slim =
      ap (cut h mtu pdu k) (narrow_is narrow slim)
      ∙ (ap (λ (first : ℕ). addressed 1 first h.destination h.source (rest h mtu pdu k)) (sym (first_narrowed h.priority 9))
      ∙ (sym (narrowed-addressed (first_byte_of 2 h.priority 9) h.destination h.source (rest h mtu pdu k)) ∙ ap narrowed (sym wide_cut)))

  module _ (to : h.destination < 256) (by : h.source < 256) where
    to_is : destination 2 wide ≡ h.destination
    to_is =
        ap (destination 2) wide_cut
        ∙ destination-addressed 2 (first_byte_of 2 h.priority 9) h.destination h.source (rest h mtu pdu k) (let e : h.destination < 65536 = omega arith in e)

    by_is : source 2 wide ≡ h.source
    by_is =
        ap (source 2) wide_cut
        ∙ source-addressed 2 (first_byte_of 2 h.priority 9) h.destination h.source (rest h mtu pdu k) (let e : h.source < 65536 = omega arith in e)

    answered-alike : (narrow ≡ 0 → ⊥) → (d : Desk) (response : List ℕ) → (state_on d).setup.narrow ≡ 0 → lent_refusal d ≡ 0 → response_size 1 ≤ length response
        → read (with_width narrow response d) (packet_of (heading_with narrow h) mtu pdu k) ≡ narrowed_answer narrow response (read d wide)
    answered-alike slim d response at_16 passed room =
        let long : header 2 ≤ length wide = rw wide_cut (omega (arith, long-cut h mtu pdu k 2)) in
        let two : tt·of wide ≡ tt_of 2 = ap tt·of wide_cut ∙ tt-cut h mtu pdu k 2 (omega arith) (omega arith) in
        ap (read (with_width narrow response d)) (slim_cut slim)
        ∙ same_but_for_ids narrow d response wide at_16 passed slim room long two (omega (arith, to_is)) (omega (arith, by_is))

pub segments_same_but_for_ids : SegmentsSameButForIDs
segments_same_but_for_ids h mtu pdu k narrow to by slim = record {
  packet = slim_cut h mtu pdu k narrow slim;
  high_bytes =
      (omega (arith, number_two (wide h mtu pdu k narrow) 1, to_is h mtu pdu k narrow to by), omega (arith, number_two (wide h mtu pdu k narrow) 3, by_is h mtu pdu k narrow to by));
  answers = answered-alike h mtu pdu k narrow to by slim;
}

-- A segment's packet as the code makes it: what stands before the field, the field, and the data with the pad, each written behind the one before; and how long it is.
use Prim.Native.Nat.{ℕ, min, ◌≤◌, ◌+◌, ◌-◌, ◌*◌, ◌%◌}
use mathlib.Core.Path.{◌≡◌, ap, sym, ◌∙◌}
use mathlib.Core.List.{List, ◌++◌}
use native.Mathlib.Omega.{arith}
use native.Mathlib.Nat.{zero-add}
use lib.Dec.{eqb}
use lib.ListN.{length, length-append}
use Rattle.lists.specs.Bytes.{written}
use Rattle.lists.proofs.Written.{written_behind}
use Rattle.wire.specs.Packet.{header}
use Rattle.cutting.specs.declared.Heading.{Heading}
use Rattle.cutting.specs.Cutting.{segment_count, segment_data, is_first, is_final, pad_of, flags_of, field_of, ids_for, packet_of}
use Rattle.cutting.proofs.Pad.{length_pad}
use Rattle.cutting.proofs.Packet.{head_of, length_head, front_length, length_field_lem, packet_is, length-packet}
use Rattle.writing.proofs.Sizes.{lent, length_data, data_part}

-- three runs, each behind the one before, make one
three_runs : (out a b c out₁ out₂ out₃ : List ℕ) → length a + length b + length c ≤ length out
    → out₁ ≡ written out 0 a → out₂ ≡ written out₁ (length a) b → out₃ ≡ written out₂ (length a + length b) c
    → out₃ ≡ written out 0 (a ++ b ++ c)
three_runs out a b c out₁ out₂ out₃ room e₁ e₂ e₃ =
    let two : out₂ ≡ written out 0 (a ++ b) = e₂ ∙ rw e₁ (at-end a b (omega arith)) in
    e₃ ∙ rw (two, ← length-append a b) (at-end (a ++ b) c (simp length-append (omega arith)))
  where
    at-end : (x y : List ℕ) → length x + length y ≤ length out → written (written out 0 x) (length x) y ≡ written out 0 (x ++ y)
    at-end x y h = ap (λ (i : ℕ). written (written out 0 x) i y) (sym (zero-add (length x))) ∙ written_behind out x y 0 (omega arith)

-- From what the code has of segment k: n bytes of data behind a front of so many bytes, where the PDU makes `count` segments.
module _ (h : Heading) (mtu : ℕ) (pdu : List ℕ) (k count n ids front : ℕ)
    (whole : count ≡ segment_count mtu (length pdu))
    (held : n ≡ min mtu (length pdu - k * mtu))
    (wide : ids ≡ ids_for h)
    (before : front ≡ front_length ids (eqb k 0) (eqb (k + 1) count)) where
  holds : length (segment_data mtu pdu k) ≡ n
  holds = length_data mtu pdu k ∙ sym held

  pub cut-length : length (packet_of h mtu pdu k) ≡ front + n + n % 2
  unfolding is_first is_final
  cut-length = length-packet h mtu pdu k ∙ simp (holds, ← whole, ← wide, ← before)

  abbrev field : List ℕ
  field = field_of (eqb k 0) (eqb (k + 1) count) h.stream (length pdu)

  pub cut-bytes : (at flags : ℕ) (out out₁ out₂ out₃ : List ℕ) → front + n + n % 2 ≤ length out → at ≡ header ids + 2 → flags ≡ flags_of (eqb k 0) (eqb (k + 1) count) n
      → out₁ ≡ written out 0 (head_of ids h flags)
      → out₂ ≡ written out₁ at field
      → out₃ ≡ written out₂ front (lent mtu pdu k n ++ pad_of (length (lent mtu pdu k n)))
      → out₃ ≡ written out 0 (packet_of h mtu pdu k)
  unfolding is_first is_final
  cut-bytes at flags out out₁ out₂ out₃ room place e e₁ e₂ e₃ =
      let head : List ℕ = head_of ids h flags in
      let rest : List ℕ = lent mtu pdu k n ++ pad_of (length (lent mtu pdu k n)) in
      let part : lent mtu pdu k n ≡ segment_data mtu pdu k = data_part mtu pdu k n held in
      let head_long : length head ≡ header ids + 2 = length_head ids h flags in
      let field_long : header ids + 2 + length field ≡ front = length_field_lem ids (eqb k 0) (eqb (k + 1) count) h.stream (length pdu) ∙ sym before in
      let rest-long : length rest ≡ n + n % 2 = simp (length-append, length_pad, part, holds) in
      let at-is : at ≡ length head = omega arith in
      let front_is : front ≡ length head + length field = omega arith in
      let parts : packet_of h mtu pdu k ≡ head ++ field ++ rest = packet_is h mtu pdu k ∙ simp (holds, ← whole, ← wide, ← e, part) in
      three_runs out head field rest out₁ out₂ out₃ (omega arith) e₁ (e₂ ∙ ap (λ (i : ℕ). written out₁ i field) at-is) (e₃ ∙ ap (λ (i : ℕ). written out₂ i rest) front_is)
      ∙ ap (written out 0) (sym parts)

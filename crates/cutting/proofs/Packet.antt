-- A segment's packet in three parts, over the bytes of an ID: what stands before the field, the field, and the data with the pad; and how long it is.
use Prim.Native.Nat.{ℕ, ◌+◌, ◌%◌}
use mathlib.Core.Path.{◌≡◌, ap, ◌∙◌}
use mathlib.Core.List.{List, [], ◌∷◌, ◌++◌, append_assoc}
use mathlib.Core.Bool.{Bool, true, false, cond}
use native.Mathlib.Omega.{arith}
use lib.ListN.{length, length-append}
use Rattle.wire.specs.Packet.{header, first_byte_of, addressed}
use Rattle.wire.proofs.Addressed.{length-addressed, append-addressed}
use Rattle.cutting.specs.declared.Heading.{Heading}
use Rattle.cutting.specs.Cutting.{segment_data, is_first, is_final, pad_of, flags_of, field_of, ids_for, packet_of}
use Rattle.cutting.proofs.Pad.{length_pad}

-- what stands before the field
abbrev pub head_of : (ids : ℕ) → Heading → (flags : ℕ) → List ℕ
head_of ids h flags = addressed ids (first_byte_of ids h.priority 9) h.destination h.source (h.cos ∷ flags ∷ [])

pub length_head : (ids : ℕ) (h : Heading) (flags : ℕ) → length (head_of ids h flags) ≡ header ids + 2
length_head ids h flags = length-addressed _ _ _ _ _

-- how many bytes stand before the data: only a continuation has no field
abbrev pub front_length : (ids : ℕ) → (first final : Bool) → ℕ
front_length ids first final = cond first (header ids + 4) (cond final (header ids + 4) (header ids + 2))

pub length_field_lem : (ids : ℕ) (first final : Bool) (stream size : ℕ) → header ids + 2 + length (field_of first final stream size) ≡ front_length ids first final
unfolding field_of
length_field_lem ids true final stream size = omega arith
length_field_lem ids false true stream size = omega arith
length_field_lem ids false false stream size = omega arith

module _ (h : Heading) (mtu : ℕ) (pdu : List ℕ) (k : ℕ) where
  abbrev bytes : List ℕ
  bytes = segment_data mtu pdu k

  abbrev field : List ℕ
  field = field_of (is_first k) (is_final mtu pdu k) h.stream (length pdu)

  pub packet_is : packet_of h mtu pdu k ≡ head_of (ids_for h) h (flags_of (is_first k) (is_final mtu pdu k) (length bytes)) ++ field ++ (bytes ++ pad_of (length bytes))
  unfolding packet_of
  packet_is = simp (append-addressed, append_assoc)

  pub length-packet : length (packet_of h mtu pdu k) ≡ front_length (ids_for h) (is_first k) (is_final mtu pdu k) + length bytes + length bytes % 2
  length-packet = ap length packet_is ∙ simp (length-append, length_head, length_pad, ← length_field_lem (ids_for h) (is_first k) (is_final mtu pdu k) h.stream (length pdu)) (omega arith)

-- Responses: when one is written, by whom, its fields, and that its buffer decides nothing.
use Prim.Native.Nat.{ℕ, ◌+◌, ◌*◌, ◌/◌, ◌%◌, ◌≤◌}
use mathlib.Core.Path.{◌≡◌, refl, ◌∙◌}
use mathlib.Core.Bool.{Bool, true, false, cond}
use native.Mathlib.Omega.{arith}
use lib.Dec.{ltb}
use borrow.Author.Tests.{ltb-true}
use Rattle.lists.specs.Bytes.{byte, AreBytes, bytes_from}
use Rattle.lists.proofs.Numbers.{read-from}
use Rattle.wire.specs.declared.Setup.{Setup}
use Rattle.wire.specs.Packet.{header, ids_of, priority, tt_of, first_byte_of}
use Rattle.wire.proofs.Addressed.{swapped, length-headed, byte-headed, next_headed, destination-headed, source-headed}
use Rattle.wire.proofs.Widths.{some_byte, two_bytes}
use Rattle.responses.specs.Type13.{above, response_to}
use mathlib.Core.List.{List, [], ◌∷◌, ◌++◌}
use Rattle.reading.proofs.Response.{response_decides_nothing}
use Rattle.promises.specs.Responses.{IsResponse, ResponsesExactly}
use Rattle.promises.proofs.Status.{written_by_lem, counted}
use Rattle.promises.proofs.FromUs.{from_us}

-- a priority fits two bits
above-small : (n : ℕ) → above n ≤ 3
above-small n = go (ltb n 3) refl
  where
    go : (b : Bool) → ltb n 3 ≡ b → cond b (n + 1) 3 ≤ 3
    go true t = omega (arith, ltb-true n 3 t)
    go false t = omega arith

-- byte 0
record Begins (ids n b : ℕ) : Type 0 where
  type : b % 16 ≡ 13
  width : b / 16 % 4 ≡ tt_of ids
  priority_is : b / 64 ≡ n

begins : (ids n : ℕ) → 1 ≤ ids → ids ≤ 2 → n ≤ 3 → Begins ids n (first_byte_of ids n 13)
begins ids n least most small = omega arith

response_layout : (settings : Setup) (p : List ℕ) (status : ℕ) → AreBytes p → IsResponse (ids_of settings) p (response_to (ids_of settings) p status) status
unfolding response_to
response_layout settings p status bytes =
    let ids : ℕ = ids_of settings in
    let first : ℕ = first_byte_of ids (above (priority p)) 13 in
    let fields : List ℕ = (0b0001 * 16 + status) ∷ byte p (header ids + 1) ∷ [] in
    let b = begins ids (above (priority p)) (some_byte settings.narrow) (two_bytes settings.narrow) (above-small (priority p)) in
    record {
      size = length-headed (swapped ids p) first fields;
      kind = b.type;
      same_width = b.width;
      higher = b.priority_is;
      to_sender = destination-headed (swapped ids p) first fields ∙ read-from ids p (1 + ids) (bytes_from ids p 1 ++ fields);
      from_us = source-headed (swapped ids p) first fields ∙ read-from ids p 1 fields;
      says = next_headed (swapped ids p) first fields;
      letter_mbox_msgseg = byte-headed (swapped ids p) first fields 1;
    }

pub responses_exactly : ResponsesExactly
responses_exactly = record {
  written_by_lem = written_by_lem;
  counted = counted;
  from_us = from_us;
  layout = response_layout;
  decides_nothing = λ d response p h h'. response_decides_nothing d.words d.stream_memory d.message_memory d.response response p h h';
}

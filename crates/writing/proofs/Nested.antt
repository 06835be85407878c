-- The writer's table in the nesting of the code: the first row that holds decides, so each row stands where no earlier one does.
-- By cases on what the rows test.
use Prim.Native.Nat.{ℕ, ◌≤◌, ◌<◌}
use mathlib.Core.Path.{◌≡◌, refl}
use mathlib.Core.List.{List, [], ◌∷◌}
use mathlib.Core.Bool.{Bool, true, false, cond, not, ◌||◌}
use native.Mathlib.Omega.{arith}
use lib.Dec.{ltb}
use lib.ListN.{length}
use borrow.Author.Tests.{lt-ltb, le-ltb}
use Rattle.lists.specs.Bytes.{written}
use Rattle.answers.specs.Answers.{write_refused, wrote}
use Rattle.tables.specs.Refusals.{row, all, verdict}
use Rattle.wire.specs.Packet.{too_wide}
use Rattle.sizes.specs.Sizes.{bad_mtu}
use Rattle.cutting.specs.declared.Heading.{Heading}
use Rattle.cutting.specs.Cutting.{bad_size, segment_count, packet_of}
use Rattle.writing.specs.Writer.{wrote_of, wrote_by, fitting, writer_table, writing}

pub nested : (out : List ℕ) (h : Heading) (mtu : ℕ) (pdu : List ℕ) (k : ℕ)
    → writing out h mtu pdu k
    ≡ cond (too_wide h.narrow h.destination || too_wide h.narrow h.source) (wrote_of (write_refused 47) out)
    (cond (bad_mtu mtu) (wrote_of (write_refused 18) out)
    (cond (ltb 3 h.priority) (wrote_of (write_refused 17) out)
    (cond (bad_size (length pdu)) (wrote_of (write_refused 14) out)
    (cond (ltb k (segment_count mtu (length pdu))) (fitting out (packet_of h mtu pdu k)) (wrote_of (write_refused 15) out)))))
unfolding writing writer_table verdict
nested out h mtu pdu k =
    go (too_wide h.narrow h.destination || too_wide h.narrow h.source) (bad_mtu mtu) (ltb 3 h.priority) (bad_size (length pdu)) (ltb k (segment_count mtu (length pdu)))
  where
    go : (w a b c d : Bool)
        → wrote_by out (packet_of h mtu pdu k)
        (verdict (row 47 w all ∷ row 18 a all ∷ row 17 b all ∷ row 14 c all ∷ row 15 (not d) all ∷ row 16 (ltb (length out) (length (packet_of h mtu pdu k))) all ∷ []))
        ≡ cond w (wrote_of (write_refused 47) out)
        (cond a (wrote_of (write_refused 18) out)
        (cond b (wrote_of (write_refused 17) out) (cond c (wrote_of (write_refused 14) out) (cond d (fitting out (packet_of h mtu pdu k)) (wrote_of (write_refused 15) out)))))
    go true a b c d = refl
    go false true b c d = refl
    go false false true c d = refl
    go false false false true d = refl
    go false false false false true = refl
    go false false false false false = refl

-- the last row by the packet's length: too short an output, and one that has room
module _ (out packet : List ℕ) (size : ℕ) (long : length packet ≡ size) where
  pub short : length out < size → wrote_of (write_refused 16) out ≡ fitting out packet
  unfolding verdict
  short h = simp (lt-ltb (length out) (length packet) (omega arith))

  pub room : (left : List ℕ) → size ≤ length out → left ≡ written out 0 packet → wrote_of (wrote size) left ≡ fitting out packet
  unfolding verdict
  room left h e = simp (← long, e, le-ltb (length out) (length packet) (omega arith))

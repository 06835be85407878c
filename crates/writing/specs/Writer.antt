-- The segment writer: its refusals in the paper's order, what it answers and what it leaves (document 01, after the table).
use Rattle.std.specs.Prelude.{ℕ, ◌≡◌, List, [], ◌∷◌, Bool, cond, not, ◌||◌, length, ltb, Result}
use Rattle.lists.specs.Bytes.{written}
use Rattle.refusals.specs.declared.Refusal.{Refusal}
use Rattle.answers.specs.Answers.{WriterSaid, wrote, write_refused, said_of_writer}
use Rattle.tables.specs.Refusals.{Row, row, all, Verdict, refuse, accept, verdict}
use Rattle.wire.specs.Packet.{too_wide}
use Rattle.sizes.specs.Sizes.{bad_mtu}
use Rattle.cutting.specs.declared.Heading.{Heading}
use Rattle.cutting.specs.Cutting.{bad_size, segment_count, packet_of}

-- in order: 47 IDs of 8 bits, and destination or source over 255 (document 02, M-112); 18; 17 priority over 3; 14 L is 0 or over 65,536;
-- 15 segment number not below the count; 16 output shorter than the packet
abbrev pub wide_ids : Heading → Bool
wide_ids h = too_wide h.narrow h.destination || too_wide h.narrow h.source

abbrev pub short_output : (out packet : List ℕ) → Row
short_output out packet = row 16 (ltb (length out) (length packet)) all

unfoldable pub writer_table : List ℕ → Heading → ℕ → List ℕ → ℕ → List Row
writer_table out h mtu pdu k =
    row 47 (wide_ids h) all
    ∷ row 18 (bad_mtu mtu) all
    ∷ row 17 (ltb 3 h.priority) all
    ∷ row 14 (bad_size (length pdu)) all
    ∷ row 15 (not (ltb k (segment_count mtu (length pdu)))) all
    ∷ short_output out (packet_of h mtu pdu k)
    ∷ []

-- what the writer says and the output it leaves
pub record Wrote : Type 0 where
  pub says : WriterSaid
  pub out : List ℕ

abbrev pub wrote_of : WriterSaid → List ℕ → Wrote
wrote_of says out = record { says = says; out = out }

abbrev pub wrote_by : List ℕ → List ℕ → Verdict → Wrote
wrote_by out packet (refuse number leaves) = wrote_of (write_refused number) out
wrote_by out packet accept = wrote_of (wrote (length packet)) (written out 0 packet)

-- by the last row alone, of a packet that the rows before it let through
abbrev pub fitting : List ℕ → List ℕ → Wrote
fitting out packet = wrote_by out packet (verdict (short_output out packet ∷ []))

-- success answers the packet's length and changes only its bytes; a refusal changes none
unfoldable pub writing : List ℕ → Heading → ℕ → List ℕ → ℕ → Wrote
writing out h mtu pdu k = wrote_by out (packet_of h mtu pdu k) (verdict (writer_table out h mtu pdu k))

-- the number of segments of a PDU; 0 where the writer would refuse the MTU or the length
unfoldable pub count_to_write : ℕ → ℕ → ℕ
count_to_write mtu size = cond (bad_mtu mtu) 0 (cond (bad_size size) 0 (segment_count mtu size))

-- the promise of `write_segment`
abbrev pub WritePromise : List ℕ → Heading → ℕ → List ℕ → ℕ → Result ℕ Refusal → List ℕ → Type 0
WritePromise out h mtu pdu k r after = wrote_of (said_of_writer r) after ≡ writing out h mtu pdu k

-- the promise of `segment_count`
abbrev pub CountPromise : ℕ → ℕ → ℕ → Type 0
CountPromise mtu size r = r ≡ count_to_write mtu size

-- What the writer cuts with IDs of 16 bits and of 8 (document 02, M-112): refused 2 by an endpoint of the other width; and the same but for the IDs.
use Rattle.std.specs.Prelude.{ℕ, ◌≤◌, ◌<◌, ◌≡◌, List, false, length}
use Rattle.lists.specs.Bytes.{byte}
use Rattle.answers.specs.Answers.{refused}
use Rattle.responses.specs.Type13.{response_size}
use Rattle.contexts.specs.State.{ids_in}
use Rattle.reading.specs.Desk.{Desk, state_on}
use Rattle.reading.specs.Table.{lent_refusal}
use Rattle.reading.specs.Read.{settled}
use Rattle.cutting.specs.declared.Heading.{Heading}
use Rattle.cutting.specs.Cutting.{ids_for, packet_of}
use Rattle.flows.specs.Deliveries.{read}
use Rattle.flows.specs.Widths.{narrowed, with_width, narrowed_answer}

-- a segment cut for one width is refused 2 by an endpoint of the other, whatever its IDs, and leaves all
abbrev pub SegmentOfOtherWidthRefused : Type 0
SegmentOfOtherWidthRefused =
    (h : Heading) (mtu : ℕ) (pdu : List ℕ) (k : ℕ) (d : Desk) → lent_refusal d ≡ 0 → (ids_for h ≡ ids_in (state_on d) → ⊥)
    → read d (packet_of h mtu pdu k) ≡ settled (refused 2) false 0 d

-- a heading with IDs of that width
abbrev pub heading_with : (narrow : ℕ) → Heading → Heading
heading_with narrow h = record {
  destination = h.destination;
  source = h.source;
  cos = h.cos;
  stream = h.stream;
  priority = h.priority;
  narrow = narrow;
}

-- segment k of a PDU with IDs of 16 bits, and with IDs of 8
pub record CutAlike (h : Heading) (mtu : ℕ) (pdu : List ℕ) (k narrow : ℕ) : Type 0 where
  -- it is the same packet but for byte 0's tt and the two high bytes, which are left out
  pub packet : packet_of (heading_with narrow h) mtu pdu k ≡ narrowed (packet_of (heading_with 0 h) mtu pdu k)
  -- and which are 0
  pub high_bytes : (byte (packet_of (heading_with 0 h) mtu pdu k) 1 ≡ 0) × (byte (packet_of (heading_with 0 h) mtu pdu k) 3 ≡ 0)
  -- two endpoints whose states differ in the width word alone answer the same to it
  pub answers : (d : Desk) (response : List ℕ) → (state_on d).setup.narrow ≡ 0 → lent_refusal d ≡ 0 → response_size 1 ≤ length response
      → read (with_width narrow response d) (packet_of (heading_with narrow h) mtu pdu k) ≡ narrowed_answer narrow response (read d (packet_of (heading_with 0 h) mtu pdu k))

abbrev pub SegmentsSameButForIDs : Type 0
SegmentsSameButForIDs =
    (h : Heading) (mtu : ℕ) (pdu : List ℕ) (k narrow : ℕ) → h.destination < 256 → h.source < 256 → (narrow ≡ 0 → ⊥) → CutAlike h mtu pdu k narrow

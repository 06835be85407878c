-- What a segment that the writer cuts says when it is read: every field, the data, and that reserved bits and pad are 0.
use Rattle.std.specs.Prelude.{ℕ, ◌+◌, ◌-◌, ◌/◌, ◌%◌, ◌^◌, ◌≤◌, ◌<◌, ◌≡◌, List, Bool, true, false, cond, ◌||◌, length, eqb}
use Rattle.lists.specs.Bytes.{byte, AreBytes}
use Rattle.wire.specs.declared.Setup.{Setup}
use Rattle.wire.specs.Packet as packet
use Rattle.wire.specs.Packet.{ids_of}
use Rattle.wire.specs.declared.Flow.{Flow}
use Rattle.wire.specs.Segment.{Segment}
use Rattle.wire.specs.Parsed.{Stream}
use Rattle.wire.specs.Type9.{flags}
use Rattle.sizes.specs.Sizes.{bad_mtu, data_length, pdu_length}
use Rattle.wire.specs.Parsed.{parsed}
use Rattle.rules.specs.Segments.{malformed}
use Rattle.stream_rooms.specs.Placing as placing
use Rattle.cutting.specs.declared.Heading.{Heading}
use Rattle.cutting.specs.Cutting.{segment_count, segment_data, is_first, is_final, ids_for, packet_of}

-- the segment of a flow with n bytes of data: S and E as given, the streamID with S, else with E the PDU length (65,536 as 0)
abbrev pub cut_segment : (ids : ℕ) → Flow → (first final : Bool) → (stream size n : ℕ) → Segment
cut_segment ids flow first final stream size n = record {
  begins = first;
  ends = final;
  flow = flow;
  field = cond first stream (cond final (size % 65536) 0);
  from = cond (first || final) (packet.header ids + 4) (packet.header ids + 2);
  raw = n + n % 2;
  odd = eqb ((n + 1) / 2 % 2) 1;
  pad = eqb (n % 2) 1;
}

abbrev pub heading_flow : Heading → Flow
heading_flow h = record { source = h.source; priority = h.priority; cos = h.cos }

-- segment k of a PDU
abbrev pub segment_for : Heading → ℕ → List ℕ → ℕ → Segment
segment_for h mtu pdu k = cut_segment (ids_for h) (heading_flow h) (is_first k) (is_final mtu pdu k) h.stream (length pdu) (length (segment_data mtu pdu k))

-- a heading whose fields fit their places
pub record InRange (h : Heading) : Type 0 where
  pub destination : h.destination < 256 ^ ids_for h
  pub source : h.source < 256 ^ ids_for h
  pub cos : h.cos < 256
  pub stream : h.stream < 65536
  pub priority : h.priority ≤ 3

-- what is asked of a segment: the fields fit, the MTU is allowed, the PDU has 1 to 65,536 bytes, and the segment is one of its own
pub record Cuttable (h : Heading) (mtu : ℕ) (pdu : List ℕ) (k : ℕ) : Type 0 where
  pub heading : InRange h
  pub allowed : bad_mtu mtu ≡ false
  pub bytes : AreBytes pdu
  pub some_byte : 1 ≤ length pdu
  pub size : length pdu ≤ 65536
  pub segment : k < segment_count mtu (length pdu)

-- DEMAND 2, the fields: a packet that the writer cuts is read as its segment by every endpoint of that address and width, rows 1 to 6 pass it, and its
-- data are the PDU's.
pub record ReadsAs (h : Heading) (mtu : ℕ) (pdu : List ℕ) (k : ℕ) (p : List ℕ) (g : Segment) : Type 0 where
  pub read : (setup : Setup) → setup.device ≡ h.destination → ids_of setup ≡ ids_for h → parsed setup p ≡ Stream g
  pub priority : packet.priority p ≡ h.priority
  pub well-formed : malformed g ≡ false
  pub length_of_data : data_length g ≡ length (segment_data mtu pdu k)
  pub data_of_lem : placing.data_of p g ≡ segment_data mtu pdu k
  -- the end says the PDU's length
  pub pdu-length : is_first k ≡ false → is_final mtu pdu k ≡ true → pdu_length g.field ≡ length pdu
  -- the three reserved bits are 0, and the pad byte is
  pub reserved : flags (ids_for h) p / 8 % 8 ≡ 0
  pub pad : g.pad ≡ true → byte p (length p - 1) ≡ 0
  -- and every entry is a byte
  pub are_bytes : AreBytes p

abbrev pub SegmentsReadBack : Type 0
SegmentsReadBack = (h : Heading) (mtu : ℕ) (pdu : List ℕ) (k : ℕ) → Cuttable h mtu pdu k → ReadsAs h mtu pdu k (packet_of h mtu pdu k) (segment_for h mtu pdu k)

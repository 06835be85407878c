-- Type 9, data streaming: document 01, 'Packet bytes'; 004 (Part 10, rev. 2.0), tables 4-1 and 4-2.
-- O and P are read on all four kinds, as rows 6 and 7 of the refusal table want; 004 has them reserved on start and continuation.
use Rattle.std.specs.Prelude.{ℕ, ◌+◌, ◌-◌, List, Bool, cond, ◌||◌, ◌&&◌, length, eqb}
use Rattle.lists.specs.Bytes.{byte, word}
use Rattle.wire.specs.Packet.{header, priority, source, bit}
use Rattle.wire.specs.declared.Flow.{Flow}
use Rattle.wire.specs.Segment.{Segment}

-- the byte behind the IDs
abbrev pub cos : (ids : ℕ) → List ℕ → ℕ
cos ids p = byte p (header ids)

-- the next: S, E, three reserved bits, xh, O, P
abbrev pub flags : (ids : ℕ) → List ℕ → ℕ
flags ids p = byte p (header ids + 1)

abbrev pub is_s : (ids : ℕ) → List ℕ → Bool
is_s ids p = bit (flags ids p) 128

abbrev pub is_e : (ids : ℕ) → List ℕ → Bool
is_e ids p = bit (flags ids p) 64

abbrev pub xh : (ids : ℕ) → List ℕ → Bool
xh ids p = bit (flags ids p) 4

abbrev pub is_o : (ids : ℕ) → List ℕ → Bool
is_o ids p = bit (flags ids p) 2

abbrev pub is_p : (ids : ℕ) → List ℕ → Bool
is_p ids p = bit (flags ids p) 1

-- a flow is a source ID, a priority and a cos (document 02, M-103). 004 ties a stream and its PDUs to one transaction request flow (2.4, 3.2.4). Such
-- flows are told apart by virtual channel, critical request flow and priority (1.5): the priority stands in byte 0, the other two in the link byte, which
-- our packets come without (document 01)
abbrev pub flow_of : (ids : ℕ) → List ℕ → Flow
flow_of ids p = record { source = source ids p; priority = priority p; cos = cos ids p }

-- whether two flows are one
unfoldable pub same_flow : Flow → Flow → Bool
same_flow a b = eqb a.source b.source && (eqb a.priority b.priority && eqb a.cos b.cos)

-- what the packet says, where its data begin at `from`
unfoldable pub segment_at : (ids : ℕ) → List ℕ → ℕ → ℕ → Segment
segment_at ids p from field = record {
  begins = is_s ids p;
  ends = is_e ids p;
  flow = flow_of ids p;
  field = field;
  from = from;
  raw = length p - from;
  odd = is_o ids p;
  pad = is_p ids p;
}

-- behind the flags, with IDs of two bytes from byte 7 on. S=1: two bytes streamID, then data. S=0, E=1: two bytes PDU length, then data.
-- S=0, E=0: data
unfoldable pub segment_of : (ids : ℕ) → List ℕ → Segment
segment_of ids p =
    cond (is_s ids p || is_e ids p)
    (segment_at ids p (header ids + 4) (word p (header ids + 2)))
    (segment_at ids p (header ids + 2) 0)

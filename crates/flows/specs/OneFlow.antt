-- One flow by itself: what joining its segments answers, where no other flow is looked at and no context has a number.
use Rattle.std.specs.Prelude.{ℕ, ◌+◌, List, ◌++◌, Bool, true, false, cond, length, ltb}
use Rattle.std.proofs.Math.Option.{Option, none, some}
use Rattle.wire.specs.Segment.{Segment}
use Rattle.wire.specs.declared.Setup.{Setup}
use Rattle.sizes.specs.Sizes.{data_length}
use Rattle.rules.specs.Segments.{malformed, wrong_size, wrong_length}

-- a PDU: its streamID and its bytes. Also what an open context holds: the streamID, and the bytes that came so far
pub record PDU : Type 0 where
  pub stream : ℕ
  pub bytes : List ℕ

abbrev pub pdu : ℕ → List ℕ → PDU
pdu stream bytes = record { stream = stream; bytes = bytes }

-- what is answered, with a delivered PDU's bytes in place of context number and length
pub data Told : Type 0 where
  held : Told
  delivered : PDU → Told
  refused : ℕ → Told

-- the flow afterwards, closed (none) or open; the answer; whether an open PDU was given up
pub record FlowOutcome : Type 0 where
  pub next : Option PDU
  pub told : Told
  pub dropped : Bool

abbrev pub flow_outcome : Option PDU → Told → Bool → FlowOutcome
flow_outcome next told dropped = record { next = next; told = told; dropped = dropped }

abbrev pub is_open : Option PDU → Bool
is_open none = false
is_open (some p) = true

-- refused, and the flow is closed
abbrev pub flow_refused : Option PDU → ℕ → FlowOutcome
flow_refused before number = flow_outcome none (refused number) (is_open before)

-- the PDU so far; an end or single delivers it and closes the flow
abbrev pub flow_joined : Segment → PDU → Bool → FlowOutcome
flow_joined g p dropped = cond g.ends (flow_outcome none (delivered p) dropped) (flow_outcome (some p) held dropped)

-- a continuation or end: rows 8, 9, 11
abbrev pub flow_continued : Setup → Option PDU → Segment → List ℕ → FlowOutcome
flow_continued setup none g bytes = flow_outcome none (refused 8) false
flow_continued setup (some p) g bytes =
    cond (ltb setup.room (length p.bytes + data_length g)) (flow_refused (some p) 9)
    (cond (wrong_length g (length p.bytes + data_length g)) (flow_refused (some p) 11)
    (flow_joined g (pdu p.stream (p.bytes ++ bytes)) false))

-- a segment g with these data bytes, for a flow that is closed or open
unfoldable pub flow_step : Setup → Option PDU → Segment → List ℕ → FlowOutcome
flow_step setup before g bytes =
    cond (malformed g) (flow_refused before 6)
    (cond (wrong_size g.ends (data_length g) setup.mtu) (flow_refused before 7)
    (cond g.begins (flow_joined g (pdu g.field bytes) (is_open before))
    (flow_continued setup before g bytes)))

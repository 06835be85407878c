-- What a packet is, before any context is looked at: refused by a row of its head, or the fields of its type.
use Rattle.std.specs.Prelude.{ℕ, List, cond}
use Rattle.tables.specs.Refusals.{Verdict, refuse, accept, verdict}
use Rattle.wire.specs.declared.Setup.{Setup}
use Rattle.wire.specs.Packet.{ids_of}
use Rattle.wire.specs.Segment.{Segment}
use Rattle.wire.specs.declared.MessageSegment.{MessageSegment}
use Rattle.wire.specs.Head.{is9, head_rows}
use Rattle.wire.specs.Type9.{segment_of}
use Rattle.wire.specs.Type11.{message_of}

pub data Parsed : Type 0 where
  Refused : ℕ → Parsed
  Stream : Segment → Parsed
  Message : MessageSegment → Parsed

-- by the rows' verdict: refused, else of type 9, else of type 11, since row 4 has passed
abbrev pub parsed_by : (ids : ℕ) → List ℕ → Verdict → Parsed
parsed_by ids p (refuse number leaves) = Refused number
parsed_by ids p accept = cond (is9 p) (Stream (segment_of ids p)) (Message (message_of ids p))

-- for the endpoint of that setup
unfoldable pub parsed : Setup → List ℕ → Parsed
parsed setup p = parsed_by (ids_of setup) p (verdict (head_rows setup.device (ids_of setup) p))

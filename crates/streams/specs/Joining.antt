-- What a type 9 packet leaves, accepted or refused (document 01, 'Cutting and joining PDUs').
use Rattle.std.specs.Prelude.{ℕ, List, false, cond, ◌&&◌}
use Rattle.tables.specs.Refusals.{Leaves, all, flow_closed, all_error, all_retry, verdict, by_verdict}
use Rattle.answers.specs.Answers.{refused}
use Rattle.wire.specs.Segment.{Segment}
use Rattle.contexts.specs.State.{State, stream_in, with_stream, closed_stream, free_stream}
use Rattle.stream_rooms.specs.Placing.{Joined, joining, placed}
use Rattle.streams.specs.Rows.{found_for, flow_open, held_before, stream_rows}

-- the context that the PDU uses: the flow's own, else the lowest free
abbrev pub context_for : State → Segment → ℕ
context_for s g = cond (flow_open s g) (found_for s g) (free_stream s)

-- the PDU's streamID came with its start
abbrev pub stream_id : State → Segment → ℕ
stream_id s g = cond g.begins g.field (stream_in s (found_for s g)).stream

-- accepted: a start or single on an open flow gives the older PDU up and uses the same context from its beginning
unfoldable pub accepted : State → List ℕ → List ℕ → Segment → Joined
accepted s memory p g = placed s memory p g (context_for s g) (held_before s g) (stream_id s g) (g.begins && flow_open s g)

-- refused, and the flow's context closed, where it has one
unfoldable pub refused_closing : State → List ℕ → Segment → ℕ → Joined
refused_closing s memory g number = joining (refused number) (flow_open s g) (with_stream s (found_for s g) closed_stream) memory

-- refused, and all stays
unfoldable pub refused_staying : State → List ℕ → ℕ → Joined
refused_staying s memory number = joining (refused number) false s memory

-- the table's last column; no row of type 9 has a response
abbrev pub stream_refusing : State → List ℕ → Segment → ℕ → Leaves → Joined
stream_refusing s memory g number all = refused_staying s memory number
stream_refusing s memory g number flow_closed = refused_closing s memory g number
stream_refusing s memory g number all_error = refused_staying s memory number
stream_refusing s memory g number all_retry = refused_staying s memory number

-- a type 9 packet from row 6 on: the first row that holds decides
unfoldable pub stepped : State → List ℕ → List ℕ → Segment → Joined
stepped s memory p g = by_verdict (stream_refusing s memory g) (accepted s memory p g) (verdict (stream_rows s g))

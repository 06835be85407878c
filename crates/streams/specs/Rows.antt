-- Rows 6 to 11 of the refusal table, for a type 9 packet and a state: their tests, and the rows (document 01, 'Refusal numbers').
use Rattle.std.specs.Prelude.{ℕ, ◌+◌, List, [], ◌∷◌, Bool, cond, not, ◌&&◌, ltb}
use Rattle.tables.specs.Refusals.{Row, row, all, flow_closed}
use Rattle.wire.specs.Segment.{Segment}
use Rattle.sizes.specs.Sizes.{data_length}
use Rattle.rules.specs.Segments.{malformed, wrong_size, wrong_length}
use Rattle.contexts.specs.State.{State, stream_in, flow_context, free_stream, stream_contexts}

-- the flow's open context, stream_contexts where it has none, and whether it has one
abbrev pub found_for : State → Segment → ℕ
found_for s g = flow_context s g.flow

abbrev pub flow_open : State → Segment → Bool
flow_open s g = ltb (found_for s g) stream_contexts

-- what the flow's context already holds; a start or single begins anew
abbrev pub held_before : State → Segment → ℕ
held_before s g = cond g.begins 0 (stream_in s (found_for s g)).held

abbrev pub total : State → Segment → ℕ
total s g = held_before s g + data_length g

-- 7: start or continuation not MTU data bytes (pad not counted); end or single over MTU
unfoldable pub missized : State → Segment → Bool
missized s g = wrong_size g.ends (data_length g) s.setup.mtu

-- 8: continuation or end, flow not open
unfoldable pub not_open : State → Segment → Bool
not_open s g = not g.begins && not (flow_open s g)

-- 9: total would pass R
unfoldable pub passes_room : State → Segment → Bool
passes_room s g = ltb s.setup.room (total s g)

-- 10: start or single, flow not open, no context free
unfoldable pub none_free : State → Segment → Bool
none_free s g = g.begins && (not (flow_open s g) && not (ltb (free_stream s) stream_contexts))

-- 11: end, total differs from PDU length
unfoldable pub length_differs : State → Segment → Bool
length_differs s g = not g.begins && wrong_length g (total s g)

-- in the paper's order and words
unfoldable pub stream_rows : State → Segment → List Row
stream_rows s g =
    -- type 9: no data, odd bytes of data, or O wrong
    row 6 (malformed g) flow_closed
    -- start or continuation not MTU data bytes (pad not counted); end or single over MTU
    ∷ row 7 (missized s g) flow_closed
    -- continuation or end, flow not open
    ∷ row 8 (not_open s g) all
    -- type 9: total would pass R
    ∷ row 9 (passes_room s g) flow_closed
    -- start or single, flow not open, no context free
    ∷ row 10 (none_free s g) all
    -- end, total differs from PDU length
    ∷ row 11 (length_differs s g) flow_closed
    ∷ []

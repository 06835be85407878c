-- `beginning::begin` meets its contract: the flow's own context from its beginning, else the lowest free one, else none.
use Rattle.stream_rooms.proofs.Laws.{joined_told}
use Rattle.streams.proofs.Laws.{start_fits, begin_own, begin_free, begin_none}
use Rattle.beginning.proofs.begin.Goals as goal

-- the flow's own
pub begin_room-requires-clause-fields : goal.begin_room-requires-clause-fields
begin_room-requires-clause-fields c =
    let begins = c.requires.fields.1 in
    (c.requires.fields.0, begins.start, start_fits _ _ c.requires.ready.good begins.passed (rw c.in-Some.is at begins.passed.flow).1)

pub returns-in-Some : goal.returns-in-Some
returns-in-Some c =
    let begins = c.requires.fields.1 in
    let t = c.begin_room.ensures in
    (begin_own _ _ _ _ begins.start begins.passed c.requires.ready.good c.in-Some.is t.0, t.1)

-- the lowest free one
pub begin_room-requires-in-Some-free_stream-clause-fields : goal.begin_room-requires-in-Some-free_stream-clause-fields
begin_room-requires-in-Some-free_stream-clause-fields c =
    let begins = c.requires.fields.1 in
    (c.requires.fields.0, begins.start, start_fits _ _ c.requires.ready.good begins.passed c.in-Some-free_stream.ensures.1)

pub returns-in-Some-free_stream : goal.returns-in-Some-free_stream
returns-in-Some-free_stream c =
    let begins = c.requires.fields.1 in
    let t = c.begin_room-in-Some-free_stream.ensures in
    (begin_free _ _ _ _ begins.start begins.passed c.requires.ready.good c.in_default.is c.in-Some-free_stream.ensures t.0, t.1)

-- 10: none is free
pub returns : goal.returns
returns c =
    let begins = c.requires.fields.1 in
    joined_told c.refusal.ensures (begin_none _ _ _ _ begins.start begins.passed c.requires.ready.good c.in_default.is c.in_default-free_stream.ensures)

-- `placing::begin_room` meets its contract: the data are stored, and a single is delivered, a start kept.
use native.Mathlib.Omega.{arith}
use Rattle.stream_rooms.proofs.Laws.{joined_told, ends_by, start-from, start_field, single, start}
use Rattle.placing.proofs.begin_room.Goals as goal

-- a start or single has its streamID, before its data
pub overflow_sub-head : goal.overflow_sub-head
overflow_sub-head c =
    omega (arith, start-from _ _ c.requires.fields.1, c.requires.fields.0.data_from_lem)

pub word_at-stream-requires : goal.word_at-stream-requires
word_at-stream-requires c =
    omega (arith, start-from _ _ c.requires.fields.1, c.requires.fields.0.data_from_lem, c.requires.ready.inside)

-- a single
pub returns-then-bit : goal.returns-then-bit
returns-then-bit c =
    let fields = c.requires.fields.0 in
    let t = c.deliver.ensures in (
      single _ _ _ _ _ _ _ c.requires.fields.2 c.store_data.ensures _ (start_field _ _ c.requires.fields.1 fields.data_from_lem c.word_at-stream.ensures.0)
          (ends_by _ _ fields.flag_bits c.bit.ensures c.if-bit.true) fields.sender t.0,
      t.1,
    )

-- a start
pub returns : goal.returns
returns c =
    let fields = c.requires.fields.0 in
    joined_told c.holding.ensures (start _ _ _ _ _ _ _ c.requires.fields.2 c.store_data.ensures _ (start_field _ _ c.requires.fields.1 fields.data_from_lem c.word_at-stream.ensures.0)
    (ends_by _ _ fields.flag_bits c.bit.ensures c.if-bit.false) fields.sender c.keep_stream.ensures)

-- `placing::end_room` meets its contract: the data are stored, and the PDU is delivered with the streamID of its context.
use Rattle.stream_rooms.proofs.Laws.{ended, of_stream_lem}
use Rattle.placing.proofs.end_room.Goals as goal

pub returns : goal.returns
returns c =
    let goes = c.requires.from_value.2 in
    let t = c.deliver.ensures in (
      ended _ _ _ _ _ _ _ _ _ goes.fits c.store_data.ensures _ goes.kind c.requires.from_value.1
          (of_stream_lem c.stream_of-stream.ensures t.0),
      t.1,
    )

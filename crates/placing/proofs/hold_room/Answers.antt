-- `placing::hold_room` meets its contract: the data are stored, and the flow's own context holds them too.
use Rattle.stream_rooms.proofs.Laws.{joined_told, kept}
use Rattle.placing.proofs.hold_room.Goals as goal

pub returns : goal.returns
returns c =
    let goes = c.requires.from_value.1 in
    joined_told c.holding.ensures (kept _ _ _ _ _ _ _ _ _ goes.fits c.store_data.ensures _ goes.kind goes.own c.hold.ensures)

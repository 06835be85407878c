-- `cutting::put` meets its contract: the second store stands behind the first, so the two make one run, and one byte 0 or none of it is the pad.
use Rattle.cutting.proofs.Pad.{put_is}
use Rattle.cutting.proofs.put.Goals as goal

pub returns : goal.returns
returns c =
    put_is _ c.args.bytes.now _ _ c.args.at c.requires c.store.ensures c.store-2.ensures

-- `ids::put_addresses` meets its contract: each store stands behind the one before, so the three make one run.
use Rattle.ids.proofs.Laws.{addresses}
use Rattle.ids.proofs.put_addresses.Goals as goal

pub returns : goal.returns
returns c =
    addresses c.args.out.now _ _ c.args.first c.args.destination c.args.source c.args.ids c.requires.2 c.put_id.ensures c.put_id-2.ensures

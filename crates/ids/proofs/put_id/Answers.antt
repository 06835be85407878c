-- `ids::put_id` meets its contract: an ID of one byte is stored over the other's place.
use Rattle.ids.proofs.Laws.{two_stores}
use Rattle.ids.proofs.put_id.Goals as goal

pub returns : goal.returns
returns c = two_stores c.args.out.now c.args.at c.args.id c.args.ids c.requires.0 c.requires.1 c.requires.2

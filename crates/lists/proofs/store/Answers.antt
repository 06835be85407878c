-- `lists::store` meets its contract: what the leaf leaves in the part is what the memory then holds from `at` on.
use Rattle.lists.proofs.Written.{written-part}
use Rattle.lists.proofs.store.Goals as goal

pub returns : goal.returns
returns c = written-part c.args.memory.now c.args.bytes.now _ c.args.at c.requires c.copy_blocks.ensures

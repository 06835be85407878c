-- `lists::copy_block` meets its contract: what was read to the block is what is written.
use Rattle.std.proofs.Common.{◌∙◌}
use Rattle.lists.proofs.Blocks.{block_written}
use Rattle.lists.proofs.copy_block.Goals as goal

pub returns : goal.returns
returns g c =
    block_written g.row.N c.args.memory.now c.args.bytes.now _ c.args.at c.requires.0 (c.copy_from_slice-2.ensures.after ∙ c.copy_from_slice.ensures.after)

-- `lists::copy_blocks` meets its contract: what is left stands behind the large blocks.
use Rattle.std.proofs.Common.{◌∙◌, rules}
use Rattle.lists.proofs.Blocks.{front_copied, last_block}
use Rattle.lists.proofs.copy_blocks.Goals as goal

pub returns : goal.returns
returns c =
    let large = c.copy_large_blocks-at in
    let bytes = c.args.bytes.now in
    c.copy_small_blocks.ensures ∙ last_block _ _ bytes 0 _ (search rules) c.requires (large.ensures.1 ∙ front_copied _ bytes large.result) large.ensures.0

-- `lists::copy_large_blocks` meets its contract: each block stands behind what is copied.
use Rattle.std.proofs.Common.{◌∙◌, rules}
use Rattle.lists.proofs.Blocks.{nothing_copied, next_block}
use Rattle.lists.proofs.copy_large_blocks.Goals as goal

-- no block
pub returns-then-bytes-lt128 : goal.returns-then-bytes-lt128
returns-then-bytes-lt128 c = (search rules, nothing_copied _ c.args.bytes.now 0)

-- two
pub returns : goal.returns
returns c =
    let bytes = c.args.bytes.now in
    let one = c.copy_block.ensures ∙ next_block _ _ bytes 0 0 (search rules) c.requires (nothing_copied _ bytes 0) 128 c.if-bytes-lt128.false in
    (c.if-bytes-lt256.false, c.copy_block-2.ensures ∙ next_block _ _ bytes 0 128 (search rules) c.requires one 128 c.if-bytes-lt256.false)

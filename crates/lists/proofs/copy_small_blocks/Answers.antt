-- `lists::copy_small_blocks` meets its contract: each turn copies one block more, and what is left at the end is copied byte by byte.
use Rattle.std.proofs.Common.{◌∙◌, rules}
use Rattle.lists.proofs.Blocks.{nothing_copied, next_block, last_part}
use Rattle.lists.proofs.copy_small_blocks.Goals as goal

pub loop-at-init : goal.loop-at-init
loop-at-init c = (search rules, search rules, search rules, search rules, nothing_copied _ _ _, search rules)

-- one block more
pub loop-at-preserved : goal.loop-at-preserved
loop-at-preserved c =
    let inv = c.loop-at.invariant in
    (search rules, search rules, search rules, search rules, c.copy_block.ensures ∙ next_block _ _ _ _ _ inv.0 c.requires.1 inv.4 32 (search rules), search rules)

-- what is left, byte by byte
pub returns : goal.returns
returns c =
    let inv = c.loop-at.invariant in
    last_part _ _ _ _ _ inv.0 c.requires.1 inv.4 _ (search rules) inv.5 c.copy.ensures

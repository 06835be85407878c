-- `finding::free_message` meets its contract: the lowest number that passes is that of the first such context.
use Rattle.std.proofs.Common.{rules}
use Rattle.lists.proofs.First.{found_first}
use Rattle.contexts.specs.State.{closed_message, free_message, is_free_message}
use Rattle.contexts.proofs.Words.{eight}
use Rattle.finding.proofs.free_message.Goals as goal

pub returns : goal.returns
unfolding free_message is_free_message
returns c = found_first _ _ closed_message _ (eight _) _ c.lowest.ensures.found c.lowest.ensures.before (λ n e. search rules) (λ n h e. search rules)

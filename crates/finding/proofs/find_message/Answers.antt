-- `finding::find_message` meets its contract: the lowest number that passes is that of the first such context.
use Rattle.std.proofs.Common.{rules}
use Rattle.lists.proofs.First.{found_first}
use Rattle.contexts.specs.State.{closed_message, message_context}
use Rattle.contexts.proofs.Words.{eight}
use Rattle.finding.proofs.find_message.Goals as goal

pub returns : goal.returns
unfolding message_context
returns c = found_first _ _ closed_message _ (eight _) _ c.lowest.ensures.found c.lowest.ensures.before (λ n e. search rules) (λ n h e. search rules)

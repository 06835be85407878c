-- `finding::find_stream` meets its contract: the lowest number that passes is that of the first such context.
use Rattle.std.proofs.Common.{rules}
use Rattle.lists.proofs.First.{found_first}
use Rattle.contexts.specs.State.{closed_stream, flow_context}
use Rattle.contexts.proofs.Words.{sixteen}
use Rattle.finding.proofs.find_stream.Goals as goal

pub returns : goal.returns
unfolding flow_context
returns c = found_first _ _ closed_stream _ (sixteen _) _ c.lowest.ensures.found c.lowest.ensures.before (λ n e. search rules) (λ n h e. search rules)

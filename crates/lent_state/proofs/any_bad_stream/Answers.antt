-- `lent_state::any_bad_stream` meets its contract: one was found exactly if one is bad.
use Rattle.std.proofs.Common.{rules, ◌∙◌}
use Rattle.lists.proofs.First.{found_any}
use Rattle.contexts.specs.State.{closed_stream}
use Rattle.contexts.proofs.Words.{sixteen}
use Rattle.lent_state.proofs.any_bad_stream.Goals as goal

pub returns : goal.returns
returns c = c.is_some.ensures ∙ found_any _ _ closed_stream _ (sixteen _) _ c.lowest.ensures.found c.lowest.ensures.before (λ n e. search rules) (λ n h e. search rules)

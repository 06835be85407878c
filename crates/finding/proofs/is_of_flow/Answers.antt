-- `finding::is_of_flow` meets its contract: each return follows from the tests on the way, which read words of the context.
use Rattle.std.proofs.Common.{sym, ◌∙◌}
use Rattle.finding.proofs.Found.{of_flow_lem, of_another}
use Rattle.finding.proofs.is_of_flow.Goals as goal

-- of that flow: where it is open
pub returns-then-same_flow : goal.returns-then-same_flow
returns-then-same_flow c =
    rw c.stream_live.ensures (of_flow_lem _ _ (rw (← c.stream_flow.ensures) (sym c.same_flow.ensures ∙ c.if-same_flow.true)))

-- of another
pub returns : goal.returns
returns c = of_another _ _ (rw (← c.stream_flow.ensures) (sym c.same_flow.ensures ∙ c.if-same_flow.false))

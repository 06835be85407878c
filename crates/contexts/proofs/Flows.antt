-- A context found for a flow is that flow's.
use mathlib.Core.Path.{◌≡◌}
use mathlib.Core.Bool.{true, not}
use Rattle.lists.proofs.Tests.{both}
use Rattle.wire.specs.declared.Flow.{Flow}
use Rattle.wire.specs.Type9.{same_flow}
use Rattle.wire.proofs.SameFlow.{same_true}
use Rattle.contexts.specs.declared.StreamContext.{StreamContext}
use Rattle.contexts.specs.State.{is_free_stream, is_of_flow}

pub of_flow_lem : (k : Flow) (c : StreamContext) → is_of_flow k c ≡ true → c.flow ≡ k
unfolding is_of_flow
of_flow_lem k c e = same_true c.flow k (both (not (is_free_stream c)) (same_flow c.flow k) e).1

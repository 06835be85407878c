-- Laws of the test whether a context is the open one of a flow.
use mathlib.Core.Path.{◌≡◌}
use mathlib.Core.Bool.{true, false, not, and-true, and-false}
use lib.Dec.{eqb}
use Rattle.wire.specs.declared.Flow.{Flow}
use Rattle.wire.specs.Type9.{same_flow}
use Rattle.contexts.specs.declared.StreamContext.{StreamContext}
use Rattle.contexts.specs.State.{is_of_flow, is_free_stream}

module _ (c : StreamContext) (flow : Flow) where
  -- a context of the flow is the flow's if it is open
  pub of_flow_lem : same_flow c.flow flow ≡ true → not (eqb c.live 0) ≡ is_of_flow flow c
  unfolding is_of_flow is_free_stream
  of_flow_lem e = rw (e, and-true (not (eqb c.live 0)))

  -- a context of another flow is not
  pub of_another : same_flow c.flow flow ≡ false → false ≡ is_of_flow flow c
  unfolding is_of_flow is_free_stream
  of_another e = rw (e, and-false (not (eqb c.live 0)))

-- What the one-flow endpoint answers, by the tests that led there.
use Prim.Native.Nat.{ℕ, ◌+◌}
use mathlib.Core.Path.{◌≡◌, ◌∙◌}
use mathlib.Core.Bool.{true, false}
use mathlib.Core.Option.{Option, none, some}
use mathlib.Core.List.{List, ◌++◌}
use lib.ListN.{length}
use lib.Dec.{ltb}
use Rattle.wire.specs.Segment.{Segment}
use Rattle.wire.specs.declared.Setup.{Setup}
use Rattle.sizes.specs.Sizes.{data_length}
use Rattle.rules.specs.Segments.{malformed, wrong_size, wrong_length}
use Rattle.flows.specs.OneFlow.{PDU, pdu, refused, flow_outcome, is_open, flow_refused, flow_joined, flow_continued, flow_step}

module _ (setup : Setup) (g : Segment) (bytes : List ℕ) where
  -- row 6
  pub flow_malformed : (before : Option PDU) → malformed g ≡ true → flow_step setup before g bytes ≡ flow_refused before 6
  unfolding flow_step
  flow_malformed before d = rw d

  module _ (d : malformed g ≡ false) where
    -- row 7
    pub flow_missized : (before : Option PDU) → wrong_size g.ends (data_length g) setup.mtu ≡ true → flow_step setup before g bytes ≡ flow_refused before 7
    unfolding flow_step
    flow_missized before e = rw (d, e)

    module _ (e : wrong_size g.ends (data_length g) setup.mtu ≡ false) where
      -- a start or single
      pub flow_begins : (before : Option PDU) → g.begins ≡ true → flow_step setup before g bytes ≡ flow_joined g (pdu g.field bytes) (is_open before)
      unfolding flow_step
      flow_begins before t = rw (d, e, t)

      module _ (t : g.begins ≡ false) where
        flow_continues : (before : Option PDU) → flow_step setup before g bytes ≡ flow_continued setup before g bytes
        unfolding flow_step
        flow_continues before = rw (d, e, t)

        -- row 8
        pub flow_closed_lem : flow_step setup none g bytes ≡ flow_outcome none (refused 8) false
        flow_closed_lem = flow_continues none

        module _ (q : PDU) (n : ℕ) (z : length q.bytes ≡ n) where
          -- row 9
          pub flow_passes : ltb setup.room (n + data_length g) ≡ true → flow_step setup (some q) g bytes ≡ flow_refused (some q) 9
          flow_passes h = flow_continues (some q) ∙ rw (z, h)

          -- row 11
          pub flow_differs : ltb setup.room (n + data_length g) ≡ false → wrong_length g (n + data_length g) ≡ true → flow_step setup (some q) g bytes ≡ flow_refused (some q) 11
          flow_differs h w = flow_continues (some q) ∙ rw (z, h, w)

          pub flow_joins : ltb setup.room (n + data_length g) ≡ false → wrong_length g (n + data_length g) ≡ false
              → flow_step setup (some q) g bytes ≡ flow_joined g (pdu q.stream (q.bytes ++ bytes)) false
          flow_joins h w = flow_continues (some q) ∙ rw (z, h, w)

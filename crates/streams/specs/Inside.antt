-- What the functions of beginning, continuing, ending and stream_step rely on. No promise of a public call speaks of it.
use Rattle.std.specs.Prelude.{ℕ, ◌+◌, ◌≤◌, ◌≡◌, true, false, Option, Some}
use Rattle.lists.specs.First.{IsFound}
use Rattle.wire.specs.Segment.{Segment}
use Rattle.sizes.specs.Sizes.{data_length}
use Rattle.contexts.specs.State.{State, stream_in, stream_contexts}
use Rattle.rules.specs.Segments.{malformed}
use Rattle.streams.specs.Rows.{found_for, missized}

-- rows 6 and 7 passed
pub record Passed (s : State) (g : Segment) (found : Option ℕ) (count : ℕ) : Type 0 where
  pub row_6 : malformed g ≡ false
  pub row_7 : missized s g ≡ false
  pub flow : IsFound stream_contexts (found_for s g) found
  pub size : count ≡ data_length g
  pub within : count ≤ g.raw
  pub small : count ≤ s.setup.mtu

pub record BeginsPDU (s : State) (g : Segment) (found : Option ℕ) (count : ℕ) : Type 0 where
  pub passed : Passed s g found count
  pub start : g.begins ≡ true

pub record ContinuesPDU (s : State) (g : Segment) (found : Option ℕ) (count : ℕ) : Type 0 where
  pub passed : Passed s g found count
  pub start : g.begins ≡ false

-- an end whose data fit behind what the flow's context holds
pub record EndsPDU (s : State) (g : Segment) (n held count : ℕ) : Type 0 where
  pub continues : ContinuesPDU s g (Some n) count
  pub so_far : held ≡ (stream_in s n).held
  pub behind : held + count ≤ s.setup.room
  pub kind : g.ends ≡ true

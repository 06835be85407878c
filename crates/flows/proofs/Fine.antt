-- A board on which reading treats each flow by itself.
use Prim.Native.Nat.{ℕ}
use mathlib.Core.Path.{◌≡◌, refl, ap, sym, ◌∙◌}
use mathlib.Core.Bool.{true}
use mathlib.Core.Option.{none}
use mathlib.Core.List.{List}
use lib.ListN.{replicate}
use Rattle.lists.specs.First.{first_of}
use Rattle.wire.specs.declared.Flow.{Flow}
use Rattle.wire.specs.declared.Setup.{Setup}
use Rattle.contexts.specs.State.{State, fresh, stream_in, closed_stream, is_free_stream, is_of_flow, flow_context}
use Rattle.contexts.specs.Words.{state_of, words_of}
use Rattle.contexts.proofs.Words.{sixteen}
use Rattle.refusal19.proofs.Good.{good, stream_holds}
use Rattle.reading.specs.Desk.{Desk, state_on}
use Rattle.flows.specs.Deliveries.{view_of, view}
use Rattle.flows.specs.Fresh.{Fresh}
use Rattle.flows.proofs.Steady.{Steady, fresh_back, fresh-steady, rooms_on}
use Rattle.flows.proofs.Contexts.{at, within, closed_free, free_of_none, Once, Inside}
use Rattle.flows.proofs.Seen.{seen, seen_at, Sound}

-- Steady; no two open contexts have one flow, and each has one of these flows.
pub record Fine (setup : Setup) (flows : List Flow) (b : Desk) : Type 0 where
  pub steady : Steady setup b
  pub once : Once (state_on b).streams
  pub inside : Inside flows (state_on b).streams

-- `view` by the contexts and the memory
pub view_is : (b : Desk) (k : Flow) → view b k ≡ seen (state_on b).setup.room (state_on b).streams b.stream_memory k
unfolding view seen seen_at flow_context
view_is b k = refl

pub view_of_lem : (s : State) (memory : List ℕ) (k : Flow) → view_of s memory k ≡ seen s.setup.room s.streams memory k
unfolding seen seen_at flow_context
view_of_lem s memory k = refl

module _ {setup : Setup} {flows : List Flow} {b : Desk} (f : Fine setup flows b) where
  -- its contexts over its stream memory are sound
  pub sound_on : Sound (state_on b).setup.room flows (state_on b).streams b.stream_memory
  sound_on = record {
    size = sixteen b.words;
    rooms = rooms_on f.steady;
    counts = λ i e. (stream_holds (state_on b).setup.room (stream_in (state_on b) i) ((good (state_on b) f.steady.good).streams i (within (state_on b).streams i e)) e).1;
    once = f.once;
    inside = f.inside;
  }

-- ---- a board that was just set up
pub fresh_at : (n i : ℕ) → at (replicate n closed_stream) i ≡ closed_stream
fresh_at ℕ.zero i = refl
fresh_at (ℕ.suc n) ℕ.zero = refl
fresh_at (ℕ.suc n) (ℕ.suc i) = fresh_at n i

module _ (setup : Setup) where
  -- no context is a flow's
  fresh-none : {A : Type 0} (i : ℕ) (k : Flow) → is_of_flow k (stream_in (state_of (words_of (fresh setup))) i) ≡ true → A
  fresh-none i k e =
      free_of_none k closed_stream closed_free (ap (is_of_flow k) (sym (ap (λ (s : State). stream_in s i) (fresh_back setup) ∙ fresh_at 16 i)) ∙ e)

  module _ (d : Desk) (f : Fresh setup d) where
    pub fresh-fine : (flows : List Flow) → Fine setup flows d
    fresh-fine flows = record {
      steady = fresh-steady setup d f;
      once = λ i j k e _. fresh-none i k (ap (λ (w : List ℕ). is_of_flow k (stream_in (state_of w) i)) (sym f.words) ∙ e);
      inside = λ i k e. fresh-none i k (ap (λ (w : List ℕ). is_of_flow k (stream_in (state_of w) i)) (sym f.words) ∙ e);
    }

    -- every flow is closed
    pub fresh-view : (flow : Flow) → view d flow ≡ none
    unfolding view flow_context first_of is_of_flow is_free_stream
    fresh-view flow = ap (λ (w : List ℕ). view_of (state_of w) d.stream_memory flow) f.words ∙ ap (λ (s : State). view_of s d.stream_memory flow) (fresh_back setup)

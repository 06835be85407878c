-- Words that are a state which 19 does not name.
use Rattle.std.specs.Prelude.{ℕ, ◌≡◌, List, false, length}
use Rattle.contexts.specs.State.{State}
use Rattle.contexts.specs.Words.{state_of, state_words}
use Rattle.refusal19.specs.Refusal19.{named_by_19}

pub record GoodWords (words : List ℕ) : Type 0 where
  pub whole : length words ≡ state_words
  pub good : named_by_19 (state_of words) ≡ false

-- still a good state, with what setup fixed as it was
pub record StillGood (before : State) (words : List ℕ) : Type 0 where
  pub whole : length words ≡ state_words
  pub good : named_by_19 (state_of words) ≡ false
  pub setup : (state_of words).setup ≡ before.setup

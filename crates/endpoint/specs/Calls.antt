-- Setup, and how many words a state has (document 01, 'Refusal numbers'). Reading: reading/specs. Abandoning: abandoning/specs. Rooms:
-- room_parts/specs.
use Rattle.std.specs.Prelude.{ℕ, ◌≡◌, List, [], ◌∷◌, not, length, replicate, eqb, Result, ⊤}
use Rattle.answers.specs.Answers.{SetupSaid, ready, setup_refused, said_of_setup}
use Rattle.answers.specs.Stands.{Stands, stands}
use Rattle.refusals.specs.declared.Refusal.{Refusal}
use Rattle.tables.specs.Refusals.{RowOf, row, VerdictOf, refuse, accept, verdict}
use Rattle.wire.specs.declared.Setup.{Setup}
use Rattle.wire.specs.Packet.{too_wide}
use Rattle.sizes.specs.Sizes.{bad_mtu}
use Rattle.contexts.specs.State.{fresh}
use Rattle.contexts.specs.Words.{words_of, state_words}
use Rattle.refusal19.specs.Refusal19.{bad_room}

-- a buffer that is no state is 12; 47 before all of the paper's: 8 bits and a device ID over 255 (document 02, M-112); 18 before 19

-- what a refused setup leaves: the words as they are, or a state of zeros
pub data SetupLeaves : Type 0 where
  words_stay : SetupLeaves
  state_of_zeros : SetupLeaves

unfoldable pub setup_table : List ℕ → Setup → List (RowOf SetupLeaves)
setup_table words settings =
    row 12 (not (eqb (length words) state_words)) words_stay
    ∷ row 47 (too_wide settings.narrow settings.device) state_of_zeros
    ∷ row 18 (bad_mtu settings.mtu) state_of_zeros
    ∷ row 19 (bad_room settings.mtu settings.room) state_of_zeros
    ∷ []

abbrev pub setup_leaving : List ℕ → SetupLeaves → List ℕ
setup_leaving words words_stay = words
setup_leaving words state_of_zeros = replicate state_words 0

abbrev pub setup_by : List ℕ → Setup → VerdictOf SetupLeaves → Stands SetupSaid
setup_by words settings (refuse number leaves) = stands (setup_refused number) (setup_leaving words leaves)
setup_by words settings accept = stands ready (words_of (fresh settings))

unfoldable pub setup : List ℕ → Setup → Stands SetupSaid
setup words settings = setup_by words settings (verdict (setup_table words settings))

abbrev pub SetupPromise : List ℕ → Setup → Result ⊤ Refusal → List ℕ → Type 0
SetupPromise words settings r after = stands (said_of_setup r) after ≡ setup words settings

-- the promise of `state_length`
abbrev pub LengthPromise : ℕ → Type 0
LengthPromise r = r ≡ state_words

-- Abandoning a context: what a lent state is refused with, then 13; a free context stays as it is (document 01, 'Cutting and joining PDUs' and
-- 'Refusal numbers').
use Rattle.std.specs.Prelude.{ℕ, ◌≡◌, List, [], ◌∷◌, ◌++◌, Bool, cond, not, ltb, Result}
use Rattle.answers.specs.Answers.{AbandonSaid, closed, free, abandon_refused, said_of_abandon}
use Rattle.answers.specs.Stands.{Stands, stands}
use Rattle.answers.specs.declared.Abandoned.{Abandoned}
use Rattle.refusals.specs.declared.Refusal.{Refusal}
use Rattle.tables.specs.Refusals.{Row, row, all, Verdict, refuse, accept, number_of, verdict}
use Rattle.contexts.specs.State.{State, stream_in, message_in, with_stream, with_message, closed_stream, closed_message, is_free_stream, is_free_message, stream_contexts, message_contexts}
use Rattle.contexts.specs.Words.{state_of, words_of}
use Rattle.lent_state.specs.Lent.{state_rows}

-- the table of a call on one of so many contexts
unfoldable pub context_table : List ℕ → ℕ → ℕ → List Row
context_table words contexts n =
    -- 19, 12 (lent_state/specs/Lent.antt)
    state_rows words
    -- a number past the last context
    ++ (row 13 (not (ltb n contexts)) all ∷ [])

-- what it is refused with: 19, 12 or 13; 0: there is such a context, in a state that 19 does not name
unfoldable pub context_refusal : List ℕ → ℕ → ℕ → ℕ
context_refusal words contexts n = number_of (verdict (context_table words contexts n))

-- the context was free, or is closed
abbrev pub abandon_by : List ℕ → Bool → State → Verdict → Stands AbandonSaid
abandon_by words is_free after (refuse number leaves) = stands (abandon_refused number) words
abandon_by words is_free after accept = cond is_free (stands free words) (stands closed (words_of after))

-- of so many contexts of a kind, which of them are free, and what closing one leaves
abbrev pub abandon : ℕ → (State → ℕ → Bool) → (State → ℕ → State) → List ℕ → ℕ → Stands AbandonSaid
abandon contexts is_free closing words n =
    abandon_by words (is_free (state_of words) n) (closing (state_of words) n) (verdict (context_table words contexts n))

unfoldable pub abandon_stream : List ℕ → ℕ → Stands AbandonSaid
abandon_stream words n = abandon stream_contexts (λ s n. is_free_stream (stream_in s n)) (λ s n. with_stream s n closed_stream) words n

unfoldable pub abandon_message : List ℕ → ℕ → Stands AbandonSaid
abandon_message words n = abandon message_contexts (λ s n. is_free_message (message_in s n)) (λ s n. with_message s n closed_message) words n

abbrev pub AbandonStreamPromise : List ℕ → ℕ → Result Abandoned Refusal → List ℕ → Type 0
AbandonStreamPromise words n r after = stands (said_of_abandon r) after ≡ abandon_stream words n

abbrev pub AbandonMessagePromise : List ℕ → ℕ → Result Abandoned Refusal → List ℕ → Type 0
AbandonMessagePromise words n r after = stands (said_of_abandon r) after ≡ abandon_message words n

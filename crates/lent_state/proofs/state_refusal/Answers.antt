-- `lent_state::state_refusal` meets its contract: each return is one of the rows of a lent state.
use mathlib.Core.Path.{sym, ◌∙◌}
use Rattle.lent_state.proofs.Lent.{no_state, named_state, good-state}
use Rattle.lent_state.proofs.state_refusal.Goals as goal

-- 12: a buffer that is no state
pub returns-then-state-ne-WORDS : goal.returns-then-state-ne-WORDS
returns-then-state-ne-WORDS c = no_state _ c.if-state-ne-WORDS.true

-- 19: a state that it names
pub returns-then-named_by_19 : goal.returns-then-named_by_19
returns-then-named_by_19 c =
    named_state _ c.if-state-ne-WORDS.false (sym c.named_by_19.ensures ∙ c.if-named_by_19.true)

-- a state that it does not name
pub returns : goal.returns
returns c =
    good-state _ c.if-state-ne-WORDS.false (sym c.named_by_19.ensures ∙ c.if-named_by_19.false)

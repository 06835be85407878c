-- `reading::lent_refusal` meets its contract: the state first, then the sizes.
use Rattle.std.proofs.Common.{refl, sym, ◌∙◌}
use Rattle.refusals.proofs.Back.{never_0, passed_on}
use Rattle.lent_state.proofs.Lent.{state_there}
use Rattle.reading.proofs.Lent.{state_lent, sizes-lent}
use Rattle.reading.proofs.lent_refusal.Goals as goal

-- 19 or 12 of the state
pub returns-in_err-state_refusal : goal.returns-in_err-state_refusal
returns-in_err-state_refusal c = rw (passed_on _ _ c.from_residual.ensures.1) (state_lent _ _ c.in_err-state_refusal.ensures (never_0 _))

pub wrong_memory-requires : goal.wrong_memory-requires
wrong_memory-requires c = state_there _ (sym c.in_ok-state_refusal.ensures)

-- 12 of the memories or the response buffer
pub returns-then-wrong_memory : goal.returns-then-wrong_memory
returns-then-wrong_memory c = sizes-lent _ 0 _ c.in_ok-state_refusal.ensures refl (sym c.wrong_memory.ensures ∙ c.if-wrong_memory.true)

-- nothing
pub returns : goal.returns
returns c = sizes-lent _ 0 _ c.in_ok-state_refusal.ensures refl (sym c.wrong_memory.ensures ∙ c.if-wrong_memory.false)

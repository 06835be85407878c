-- `abandoning::context_refusal` meets its contract: each return is a row of the table of calls on one context, or none.
use Rattle.std.proofs.Common.{sym}
use Rattle.refusals.proofs.Back.{never_0, passed_on}
use Rattle.abandoning.proofs.Laws.{lent-refuses, past-refuses, one_accepts}
use Rattle.abandoning.proofs.context_refusal.Goals as goal

-- 19: a state that it names; 12: a buffer that is no state
pub returns-in_err-state_refusal : goal.returns-in_err-state_refusal
returns-in_err-state_refusal c = rw (passed_on _ _ c.from_residual.ensures.1) (lent-refuses _ _ _ _ c.in_err-state_refusal.ensures (never_0 _))

-- 13: past the last context
pub returns-then-contexts-n : goal.returns-then-contexts-n
returns-then-contexts-n c = past-refuses _ _ _ (sym c.in_ok-state_refusal.ensures) c.if-contexts-n.true

pub returns : goal.returns
returns c = one_accepts _ _ _ (sym c.in_ok-state_refusal.ensures) c.if-contexts-n.false

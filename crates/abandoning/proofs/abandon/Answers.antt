-- `abandoning::abandon` meets its contract: each return is a row of the table of abandoning, or closes the one context.
use Rattle.std.proofs.Common.{sym, ◌∙◌}
use Rattle.refusals.proofs.Back.{never_0, passed_on}
use Rattle.abandoning.proofs.Laws.{context_there, abandon_refused_lem, abandon_free, abandon_closed}
use Rattle.abandoning.proofs.abandon.Goals as goal

-- 19, 12 and 13
pub returns-in_err-context_refusal : goal.returns-in_err-context_refusal
returns-in_err-context_refusal g c =
    rw (passed_on _ _ c.from_residual.ensures.1, ← c.CONTEXTS.ensures) (abandon_refused_lem _ _ _ _ _ _ c.in_err-context_refusal.ensures (never_0 _))

pub is_free-requires : goal.is_free-requires
is_free-requires g c = rw (← c.CONTEXTS.ensures) (context_there _ _ _ (sym c.in_ok-context_refusal.ensures))

-- a free context stays
pub returns-then-is_free : goal.returns-then-is_free
returns-then-is_free g c =
    rw (← c.CONTEXTS.ensures) (abandon_free _ _ _ _ _ (sym c.in_ok-context_refusal.ensures) (sym c.is_free.ensures ∙ c.if-is_free.true))

pub close-requires : goal.close-requires
close-requires g c = rw (← c.CONTEXTS.ensures) (context_there _ _ _ (sym c.in_ok-context_refusal.ensures))

-- an open one is closed
pub returns : goal.returns
returns g c =
    let close = c.close in
    let passed = sym c.in_ok-context_refusal.ensures in
    rw (← c.CONTEXTS.ensures)
    (abandon_closed _ _ _ _ _ passed close.new.state (close.auto.state ∙ (context_there _ _ _ passed).1) close.ensures (sym c.is_free.ensures ∙ c.if-is_free.false))

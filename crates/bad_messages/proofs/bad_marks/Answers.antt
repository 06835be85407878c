-- `bad_messages::bad_marks` meets its contract: marks that are none, or no fewer than all, are bad; fewer leave the last length to judge, and fit
-- its cast.
use mathlib.Core.Path.{◌∙◌}
use borrow.Author.Rules.{rules}
use Rattle.bad_messages.proofs.Few.{none_bad, all_bad, few_bad}
use Rattle.bad_messages.proofs.bad_marks.Goals as goal

-- none
pub returns-then-c-eq0 : goal.returns-then-c-eq0
returns-then-c-eq0 c = none_bad _ c.if-c-eq0.true

-- all, or beyond msglen
pub returns-then-all-c : goal.returns-then-all-c
returns-then-all-c c =
    all_bad _ c.if-c-eq0.false (rw (← c.power-all.ensures.0) c.if-all-c.true)

-- the last segment's length
pub returns : goal.returns
returns c =
    c.bad_last.ensures ∙ few_bad _ c.if-c-eq0.false (rw (← c.power-all.ensures.0) c.if-all-c.false)

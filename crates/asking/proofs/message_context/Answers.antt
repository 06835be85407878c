-- `asking::message_context` meets its contract: each return is a row of the table of calls on one context, or says what the context holds.
use Rattle.std.proofs.Common.{sym}
use borrow.Author.Tests.{eq-eqb, ne_eqb}
use Rattle.refusals.proofs.Back.{never_0, passed_on}
use Rattle.answers.specs.Answers.{message_ask_refused}
use Rattle.contexts.specs.State.{is_free_message}
use Rattle.abandoning.proofs.Laws.{context_there}
use Rattle.asking.specs.Asking.{ask_message}
use Rattle.asking.proofs.Laws.{ask_refused, ask_held, message_free, message_open_lem}
use Rattle.asking.proofs.message_context.Goals as goal

-- 19, 12 and 13
pub returns-in_err-context_refusal : goal.returns-in_err-context_refusal
unfolding ask_message
returns-in_err-context_refusal c = rw (passed_on _ _ c.from_residual.ensures.1) (ask_refused message_ask_refused _ _ _ _ _ c.in_err-context_refusal.ensures (never_0 _))

pub message_at-m-requires : goal.message_at-m-requires
message_at-m-requires c = context_there _ _ _ (sym c.in_ok-context_refusal.ensures)

-- it is free
pub returns-then-m-eq0 : goal.returns-then-m-eq0
unfolding ask_message is_free_message
returns-then-m-eq0 c =
    ask_held message_ask_refused _ _ _ _ (sym c.in_ok-context_refusal.ensures) (message_free c.message_at-m.ensures (eq-eqb _ _ c.if-m-eq0.true))

-- it is open
pub returns : goal.returns
unfolding ask_message is_free_message
returns c =
    ask_held message_ask_refused _ _ _ _ (sym c.in_ok-context_refusal.ensures)
    (message_open_lem c.message_at-m.ensures c.bytes_of.ensures (ne_eqb _ _ c.if-m-eq0.false))

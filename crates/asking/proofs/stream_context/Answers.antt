-- `asking::stream_context` meets its contract: each return is a row of the table of calls on one context, or says what the context holds.
use Rattle.std.proofs.Common.{sym}
use borrow.Author.Tests.{eq-eqb, ne_eqb}
use Rattle.refusals.proofs.Back.{never_0, passed_on}
use Rattle.answers.specs.Answers.{stream_ask_refused}
use Rattle.contexts.specs.State.{is_free_stream}
use Rattle.abandoning.proofs.Laws.{context_there}
use Rattle.asking.specs.Asking.{ask_stream}
use Rattle.asking.proofs.Laws.{ask_refused, ask_held, stream_free, stream_open}
use Rattle.asking.proofs.stream_context.Goals as goal

-- 19, 12 and 13
pub returns-in_err-context_refusal : goal.returns-in_err-context_refusal
unfolding ask_stream
returns-in_err-context_refusal c = rw (passed_on _ _ c.from_residual.ensures.1) (ask_refused stream_ask_refused _ _ _ _ _ c.in_err-context_refusal.ensures (never_0 _))

pub stream_at-c-requires : goal.stream_at-c-requires
stream_at-c-requires c = context_there _ _ _ (sym c.in_ok-context_refusal.ensures)

-- it is free
pub returns-then-c-eq0 : goal.returns-then-c-eq0
unfolding ask_stream is_free_stream
returns-then-c-eq0 c =
    ask_held stream_ask_refused _ _ _ _ (sym c.in_ok-context_refusal.ensures) (stream_free c.stream_at-c.ensures (eq-eqb _ _ c.if-c-eq0.true))

-- it is open
pub returns : goal.returns
unfolding ask_stream is_free_stream
returns c =
    ask_held stream_ask_refused _ _ _ _ (sym c.in_ok-context_refusal.ensures)
    (stream_open c.stream_at-c.ensures (ne_eqb _ _ c.if-c-eq0.false))

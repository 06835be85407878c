-- `bad_streams::bad_stream` meets its contract: each return follows from the tests on the way.
use Rattle.refusal19.specs.Refusal19.{bad_stream}
use Rattle.contexts.specs.State.{is_free_stream}
use borrow.Author.Tests.{eq-eqb, ne_eqb}
use Rattle.bad_streams.proofs.bad_stream.Goals as goal

pub returns-then-c-eq0 : goal.returns-then-c-eq0
unfolding bad_stream is_free_stream
returns-then-c-eq0 c = simp (eq-eqb _ _ c.if-c-eq0.true)

pub returns-then-c-eq0-2 : goal.returns-then-c-eq0-2
unfolding bad_stream is_free_stream
returns-then-c-eq0-2 c = simp (ne_eqb _ _ c.if-c-eq0.false, eq-eqb _ _ c.if-c-eq0-2.true)

pub returns : goal.returns
unfolding bad_stream is_free_stream
returns c = simp (ne_eqb _ _ c.if-c-eq0.false, ne_eqb _ _ c.if-c-eq0-2.false)

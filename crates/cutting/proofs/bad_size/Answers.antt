-- `cutting::bad_size` meets its contract: by the two tests, which are those of `bad_size`.
use Rattle.std.proofs.Common.{eq-eqb}
use borrow.Author.Tests.{ne_eqb}
use Rattle.cutting.specs.Cutting.{bad_size}
use Rattle.cutting.proofs.bad_size.Goals as goal

pub returns-then-size-eq0 : goal.returns-then-size-eq0
unfolding bad_size
returns-then-size-eq0 c = simp (eq-eqb _ _ c.if-size-eq0.true)

pub returns : goal.returns
unfolding bad_size
returns c = simp (ne_eqb _ _ c.if-size-eq0.false)

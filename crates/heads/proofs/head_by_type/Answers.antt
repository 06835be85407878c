-- `heads::head_by_type` meets its contract: each return follows from the tests on the way.
use mathlib.Core.Path.{◌∙◌}
use native.Mathlib.Omega.{arith}
use borrow.Author.Tests.{eq-eqb, le-ltb, lt-ltb, ne_eqb}
use borrow.Author.Rules.{rules}
use Rattle.tables.specs.Refusals.{verdict}
use Rattle.wire.specs.Head.{head_rows}
use Rattle.wire.specs.Inside.{headed_behind}
use Rattle.wire.proofs.HeadLaws.{behind_5}
use Rattle.heads.proofs.head_by_type.Goals as goal

-- type 9. 1: without its flags
pub returns-then-packet-h-clause-number : goal.returns-then-packet-h-clause-number
unfolding headed_behind head_rows verdict
returns-then-packet-h-clause-number c =
    simp (← c.header-h.ensures, ← c.wide-kind.ensures.0, eq-eqb _ _ c.if-kind-eq9.true, lt-ltb _ _ c.if-packet-h.true)

-- type 9
pub returns-then-kind-eq9-clause-number : goal.returns-then-kind-eq9-clause-number
returns-then-kind-eq9-clause-number c =
    c.head_of_9.ensures.number
    ∙ behind_5 _ _ (simp (← c.wide-kind.ensures.0) (eq-eqb _ _ c.if-kind-eq9.true)) (omega (arith, c.header-h.ensures, c.if-packet-h.false))

-- type 11. 1: without its second byte
pub returns-then-packet-h-2-clause-number : goal.returns-then-packet-h-2-clause-number
unfolding headed_behind head_rows verdict
returns-then-packet-h-2-clause-number c =
    simp (
      ← c.header-h.ensures,
      ← c.wide-kind.ensures.0,
      ne_eqb _ _ c.if-kind-eq9.false,
      eq-eqb _ _ c.if-kind-eq11.true,
      lt-ltb _ _ c.if-packet-h-2.true,
    )

-- type 11
pub returns-then-kind-eq11-clause-number : goal.returns-then-kind-eq11-clause-number
unfolding headed_behind head_rows verdict
returns-then-kind-eq11-clause-number c =
    simp (
      ← c.header-h.ensures,
      ← c.wide-kind.ensures.0,
      ne_eqb _ _ c.if-kind-eq9.false,
      eq-eqb _ _ c.if-kind-eq11.true,
      le-ltb _ _ c.if-packet-h-2.false,
    ) (search rules)

-- 4: another type
pub returns-clause-number : goal.returns-clause-number
unfolding headed_behind head_rows verdict
returns-clause-number c =
    simp (← c.wide-kind.ensures.0, ne_eqb _ _ c.if-kind-eq9.false, ne_eqb _ _ c.if-kind-eq11.false)

-- `heads::head_at` meets its contract: each return follows from the tests on the way.
use mathlib.Core.Path.{◌∙◌}
use native.Mathlib.Omega.{arith}
use borrow.Author.Tests.{eq-eqb, le-ltb, lt-ltb, ne_eqb}
use Rattle.tables.specs.Refusals.{verdict}
use Rattle.wire.specs.Head.{head_rows}
use Rattle.wire.specs.Inside.{headed}
use Rattle.wire.proofs.HeadLaws.{behind_3}
use Rattle.heads.proofs.head_at.Goals as goal

-- 1: without its IDs
pub returns-then-packet-header-clause-number : goal.returns-then-packet-header-clause-number
unfolding headed head_rows verdict
returns-then-packet-header-clause-number c = simp (← c.header.ensures, lt-ltb _ _ c.if-packet-header.true)

-- 2: tt
pub returns-then-wide-ids-clause-number : goal.returns-then-wide-ids-clause-number
unfolding headed head_rows verdict
returns-then-wide-ids-clause-number c =
    simp (← c.header.ensures, le-ltb _ _ c.if-packet-header.false, ← c.wide.ensures.0, ne_eqb _ _ c.if-wide-ids.true)

-- 3: destination
pub returns-then-id_at-device-clause-number : goal.returns-then-id_at-device-clause-number
unfolding headed head_rows verdict
returns-then-id_at-device-clause-number c =
    simp (
      ← c.header.ensures,
      le-ltb _ _ c.if-packet-header.false,
      ← c.wide.ensures.0,
      eq-eqb _ _ c.if-wide-ids.false,
      ← c.id_at.ensures,
      ne_eqb _ _ c.if-id_at-device.true,
    )

-- by its type
pub returns-clause-number : goal.returns-clause-number
returns-clause-number c =
    c.head_by_type.ensures.number
    ∙ behind_3 _ _ _ (omega (arith, c.header.ensures, c.if-packet-header.false)) (simp (← c.wide.ensures.0) c.if-wide-ids.false)
    (simp (← c.id_at.ensures) c.if-id_at-device.false)

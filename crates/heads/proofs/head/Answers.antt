-- `heads::head` meets its contract: the bytes of an ID are 2 or 1.
use borrow.Author.Tests.{eq-eqb, ne_eqb}
use Rattle.wire.specs.Packet.{id_bytes}
use Rattle.heads.proofs.head.Goals as goal

-- 16 bits
pub returns-then-narrow-eq0-clause-number : goal.returns-then-narrow-eq0-clause-number
unfolding id_bytes
returns-then-narrow-eq0-clause-number c = simp (eq-eqb _ _ c.if-narrow-eq0.true, ← c.head_at.ensures.number)

-- 8 bits
pub returns-clause-number : goal.returns-clause-number
unfolding id_bytes
returns-clause-number c = simp (ne_eqb _ _ c.if-narrow-eq0.false, ← c.head_at-2.ensures.number)

-- `bad_messages::bad_last` meets its contract: each return follows from the tests on the way.
use borrow.Author.Rules.{rules}
use Rattle.refusal19.specs.Refusal19.{bad_last}
use Rattle.bad_messages.proofs.bad_last.Goals as goal

-- marked, and 8 to ssize in eights
pub returns-then-in_eights : goal.returns-then-in_eights
unfolding bad_last
returns-then-in_eights c =
    simp (← c.bytes_of-size.ensures, ← c.marked.ensures, c.if-marked.true, ← c.in_eights.ensures, c.if-in_eights.true)

-- marked, and not
pub returns-then-marked : goal.returns-then-marked
unfolding bad_last
returns-then-marked c =
    simp (← c.bytes_of-size.ensures, ← c.marked.ensures, c.if-marked.true, ← c.in_eights.ensures, c.if-in_eights.false)

-- unmarked
pub returns : goal.returns
unfolding bad_last
returns c =
    simp (← c.bytes_of-size.ensures, ← c.marked.ensures, c.if-marked.false)

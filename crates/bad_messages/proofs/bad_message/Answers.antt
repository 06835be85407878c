-- `bad_messages::bad_message` meets its contract: each return follows from the tests on the way.
use borrow.Author.Tests.{eq-eqb, le-ltb, lt-ltb, ne_eqb}
use borrow.Author.Rules.{rules}
use Rattle.sizes.specs.Sizes.{bytes_of}
use Rattle.contexts.specs.State.{is_free_message}
use Rattle.refusal19.specs.Refusal19.{bad_marks, bad_message}
use Rattle.bad_messages.proofs.bad_message.Goals as goal

-- free
pub returns-then-c-eq0 : goal.returns-then-c-eq0
unfolding bad_message bad_marks is_free_message bytes_of
returns-then-c-eq0 c = simp (eq-eqb _ _ c.if-c-eq0.true)

-- bad ssize
pub returns-then-bytes_of-eq0 : goal.returns-then-bytes_of-eq0
unfolding bad_message bad_marks is_free_message bytes_of
returns-then-bytes_of-eq0 c =
    simp (ne_eqb _ _ c.if-c-eq0.false, ← c.bytes_of.ensures, eq-eqb _ _ c.if-bytes_of-eq0.true)

-- msglen 0
pub returns-then-c-eq0-2 : goal.returns-then-c-eq0-2
unfolding bad_message bad_marks is_free_message bytes_of
returns-then-c-eq0-2 c =
    simp (ne_eqb _ _ c.if-c-eq0.false, ← c.bytes_of.ensures, ne_eqb _ _ c.if-bytes_of-eq0.false, eq-eqb _ _ c.if-c-eq0-2.true)

-- msglen over 15
pub returns-then-c-gt15 : goal.returns-then-c-gt15
unfolding bad_message bad_marks is_free_message bytes_of
returns-then-c-gt15 c =
    simp (ne_eqb _ _ c.if-c-eq0.false, ← c.bytes_of.ensures, ne_eqb _ _ c.if-bytes_of-eq0.false, ne_eqb _ _ c.if-c-eq0-2.false, lt-ltb _ _ c.if-c-gt15.true)

-- the marks
pub returns : goal.returns
unfolding bad_message bad_marks is_free_message bytes_of
returns c =
    simp (
      ne_eqb _ _ c.if-c-eq0.false,
      ← c.bytes_of.ensures,
      ne_eqb _ _ c.if-bytes_of-eq0.false,
      ne_eqb _ _ c.if-c-eq0-2.false,
      le-ltb _ _ c.if-c-gt15.false,
      ← c.bad_marks.ensures,
    )

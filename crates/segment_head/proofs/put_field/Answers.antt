-- `segment_head::put_field` meets its contract: each return follows from the tests on the way, and a continuation's field is no byte.
use Rattle.lists.proofs.Written.{written-nothing}
use Rattle.cutting.specs.Cutting.{field_of}
use Rattle.segment_head.proofs.put_field.Goals as goal

-- S
pub returns-then-first : goal.returns-then-first
unfolding field_of
returns-then-first c = simp (c.if-first.true, c.put_word.ensures)

-- E
pub returns-then-last : goal.returns-then-last
unfolding field_of
returns-then-last c = simp (c.if-first.false, c.if-last.true, c.put_word-then-last.ensures)

-- neither
pub returns : goal.returns
unfolding field_of
returns c = simp (c.if-first.false, c.if-last.false, written-nothing)

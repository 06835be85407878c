-- At i the first i bytes are copied and the rest of the memory is as it was.
use Rattle.std.proofs.Common.{length, ◌≡◌, ◌≤◌}
use lib.Seq.{paste}
use Rattle.lists.proofs.copy.Given as goal

abbrev pub invariant-loop-i : goal.invariant-loop-i
invariant-loop-i l =
    (l.i ≤ length l.bytes) × (l.memory ≡ paste l.fn.memory 0 l.bytes l.i) × (length l.memory ≡ length l.fn.memory)

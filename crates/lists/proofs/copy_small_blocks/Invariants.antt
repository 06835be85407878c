-- At `at` the bytes from `from` on before it are copied, the rest of the memory is as it was, and whole blocks are left before the end of the
-- blocks. What is left before that end falls.
use Rattle.std.proofs.Common.{length, ◌-◌, ◌%◌, ◌≡◌, ◌≤◌}
use Rattle.lists.proofs.Blocks.{copied_to}
use Rattle.lists.proofs.copy_small_blocks.Given as goal

abbrev pub invariant-loop-at : goal.invariant-loop-at
invariant-loop-at l =
    (l.from ≤ l.at) × (l.at ≤ l.end) × (l.end ≤ length l.bytes) × ((l.end - l.at) % 32 ≡ 0) × (l.memory ≡ copied_to l.fn.memory l.bytes l.from l.at) × (length l.memory ≡ length l.fn.memory)

abbrev pub decreases-loop-at : goal.decreases-loop-at
decreases-loop-at l = l.end - l.at

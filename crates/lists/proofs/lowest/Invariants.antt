-- None before the one that is asked next passes.
use Rattle.std.proofs.Common.{◌≡◌, ℕ, false, ◌<◌}
use Rattle.lists.proofs.lowest.Given as goal

abbrev pub invariant-loop-n : goal.invariant-loop-n
invariant-loop-n g l = (k : ℕ) → k < l.n → goal.F-post g l.passes k false

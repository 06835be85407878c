-- `cutting::count_of` meets its contract: the code is the definition, and nothing wraps, since an MTU is at least 1 and at most 256 and a length at most 65,536.
use Rattle.std.proofs.Common.{refl}
use Rattle.cutting.specs.Cutting.{segment_count}
use Rattle.cutting.proofs.count_of.Goals as goal

pub returns : goal.returns
unfolding segment_count
returns c = refl

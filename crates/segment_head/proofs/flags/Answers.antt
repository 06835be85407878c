-- `segment_head::flags` meets its contract: each bit is what `bit_of` ensures of it, and four different weights never pass a byte.
use Rattle.cutting.specs.Cutting.{flags_of}
use Rattle.segment_head.proofs.flags.Goals as goal

pub returns : goal.returns
unfolding flags_of
returns c = simp (← c.bit_of.ensures.0, ← c.bit_of-2.ensures.0, ← c.bit_of-3.ensures.0, ← c.bit_of-4.ensures.0)

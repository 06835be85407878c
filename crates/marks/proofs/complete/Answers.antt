-- `marks::complete` meets its contract: the count of ones is small, and says whether all are marked.
use Rattle.std.proofs.Common.{sym, refl}
use Rattle.marks.specs.Marks.{counted_complete}
use Rattle.marks.proofs.Ones.{counted}
use Rattle.marks.proofs.complete.Goals as goal

pub returns : goal.returns
unfolding counted_complete
returns c = (sym (counted _ _ c.requires.1), refl)

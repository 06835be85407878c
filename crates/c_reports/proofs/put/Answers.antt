-- `c_reports::put` meets its contract: each word has its place, and the stores are one run of words.
use Rattle.c_reports.proofs.Laws.{stored}
use Rattle.c_reports.proofs.put.Goals as goal

pub returns : goal.returns
returns c = stored _ _ c.args.r c.requires

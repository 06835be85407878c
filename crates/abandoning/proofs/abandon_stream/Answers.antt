-- `abandoning::abandon_stream` meets its contract, as abandoning a context of any kind does.
use Rattle.abandoning.specs.Abandoning.{abandon_stream}
use Rattle.abandoning.proofs.abandon_stream.Goals as goal

pub returns : goal.returns
unfolding abandon_stream
returns c = c.abandon.ensures

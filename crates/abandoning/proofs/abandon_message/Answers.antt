-- `abandoning::abandon_message` meets its contract, as abandoning a context of any kind does.
use Rattle.abandoning.specs.Abandoning.{abandon_message}
use Rattle.abandoning.proofs.abandon_message.Goals as goal

pub returns : goal.returns
unfolding abandon_message
returns c = c.abandon.ensures

-- `stream_contexts::hold` meets its contract: two words of the context's row are written, and those between stay.
use Rattle.contexts.proofs.Words.{stream_hold}
use Rattle.stream_contexts.proofs.hold.Goals as goal

pub returns : goal.returns
returns c = stream_hold _ c.requires.1 _ c.args.held c.requires.0

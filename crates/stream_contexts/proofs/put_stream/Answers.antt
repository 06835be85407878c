-- `stream_contexts::put_stream` meets its contract: its words written are one row of the table, and touch no other.
use Rattle.contexts.proofs.Words.{stream_put}
use Rattle.stream_contexts.proofs.put_stream.Goals as goal

pub returns : goal.returns
returns c = stream_put _ c.requires.1 _ c.args.c c.requires.0

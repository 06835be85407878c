-- `message_contexts::put_message` meets its contract: its words written are one row of the table, and touch no other.
use Rattle.contexts.proofs.Words.{message_put}
use Rattle.message_contexts.proofs.put_message.Goals as goal

pub returns : goal.returns
returns c = message_put _ c.requires.1 _ c.args.c c.requires.0

-- `message_contexts::message_at` meets its contract: its words are one row of the table.
use Rattle.contexts.proofs.Words.{message_read}
use Rattle.message_contexts.proofs.message_at.Goals as goal

pub returns : goal.returns
returns c = message_read _ c.requires.1 _ c.requires.0

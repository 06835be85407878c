-- `message_contexts::message_live` meets its contract: its word is one of the context's row.
use Rattle.std.proofs.Common.{ap}
use Rattle.contexts.specs.declared.MessageContext.{MessageContext}
use Rattle.contexts.proofs.Words.{message_read}
use Rattle.message_contexts.proofs.message_live.Goals as goal

pub returns : goal.returns
returns c = ap (λ (x : MessageContext). x.live) (message_read _ c.requires.1 _ c.requires.0)

-- A message context is free where its live is 0.
use Rattle.std.proofs.Common.{rules}
use Rattle.contexts.specs.State.{is_free_message}
use Rattle.abandoning.proofs.MessagesKind.is_free.Goals as goal

pub returns : goal.returns
unfolding is_free_message
returns c = rw (c.message_live.ensures) (search rules)

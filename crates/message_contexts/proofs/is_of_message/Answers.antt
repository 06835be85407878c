-- `message_contexts::is_of_message` meets its contract: each return follows from the tests on the way, which read the words of the context's row.
use Rattle.std.proofs.Common.{◌∙◌, ap}
use Rattle.contexts.specs.State.{is_of_message}
use Rattle.contexts.proofs.Words.{message_read}
use Rattle.contexts.proofs.OfMessage.{of_message_lem, another-source, another-letter, another-mbox}
use Rattle.message_contexts.proofs.is_of_message.Goals as goal

-- one of the three is another
pub returns-then-state-at : goal.returns-then-state-at
returns-then-state-at c =
    another-source _ _ _ _ c.if-state-at.true ∙ ap (is_of_message _ _ _) (message_read _ c.requires.1 _ c.requires.0)

pub returns-then-state-at-2 : goal.returns-then-state-at-2
returns-then-state-at-2 c =
    another-letter _ _ _ _ c.if-state-at-2.true ∙ ap (is_of_message _ _ _) (message_read _ c.requires.1 _ c.requires.0)

pub returns-then-state-at-3 : goal.returns-then-state-at-3
returns-then-state-at-3 c =
    another-mbox _ _ _ _ c.if-state-at-3.true ∙ ap (is_of_message _ _ _) (message_read _ c.requires.1 _ c.requires.0)

-- all three are the same: where it is open
pub returns : goal.returns
returns c =
    of_message_lem _ _ _ _ c.if-state-at.false c.if-state-at-2.false c.if-state-at-3.false
    ∙ ap (is_of_message _ _ _) (message_read _ c.requires.1 _ c.requires.0)

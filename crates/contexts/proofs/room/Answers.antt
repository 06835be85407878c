-- `contexts::room` meets its contract: a word of the head is R.
use Rattle.std.proofs.Common.{ap}
use Rattle.wire.specs.declared.Setup.{Setup}
use Rattle.contexts.proofs.Words.{setup-read}
use Rattle.contexts.proofs.room.Goals as goal

pub returns : goal.returns
returns c = ap (λ (s : Setup). s.room) (setup-read _ c.requires)

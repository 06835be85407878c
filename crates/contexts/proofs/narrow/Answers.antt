-- `contexts::narrow` meets its contract: a word of the head chooses the width.
use Rattle.std.proofs.Common.{ap}
use Rattle.wire.specs.declared.Setup.{Setup}
use Rattle.contexts.proofs.Words.{setup-read}
use Rattle.contexts.proofs.narrow.Goals as goal

pub returns : goal.returns
returns c = ap (λ (s : Setup). s.narrow) (setup-read _ c.requires)

-- `contexts::device` meets its contract: a word of the head is our device ID.
use Rattle.std.proofs.Common.{ap}
use Rattle.wire.specs.declared.Setup.{Setup}
use Rattle.contexts.proofs.Words.{setup-read}
use Rattle.contexts.proofs.device.Goals as goal

pub returns : goal.returns
returns c = ap (λ (s : Setup). s.device) (setup-read _ c.requires)

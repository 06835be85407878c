-- `contexts::mtu` meets its contract: a word of the head is the MTU.
use Rattle.std.proofs.Common.{ap}
use Rattle.wire.specs.declared.Setup.{Setup}
use Rattle.contexts.proofs.Words.{setup-read}
use Rattle.contexts.proofs.mtu.Goals as goal

pub returns : goal.returns
returns c = ap (λ (s : Setup). s.mtu) (setup-read _ c.requires)

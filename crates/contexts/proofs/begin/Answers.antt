-- `contexts::begin` meets its contract: a state of zeros with the head written.
use Rattle.std.proofs.Common.{ℕ, ap, ◌∙◌, replicate}
use Rattle.contexts.proofs.Words.{begun}
use Rattle.contexts.proofs.begin.Goals as goal

pub returns : goal.returns
returns c = begun c.clear.new.state c.args.setup (c.clear.ensures ∙ ap (λ (n : ℕ). replicate n 0) c.requires)

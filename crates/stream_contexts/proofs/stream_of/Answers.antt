-- `stream_contexts::stream_of` meets its contract: its word is one of the context's row.
use Rattle.std.proofs.Common.{ap}
use Rattle.contexts.specs.declared.StreamContext.{StreamContext}
use Rattle.contexts.proofs.Words.{stream_read}
use Rattle.stream_contexts.proofs.stream_of.Goals as goal

pub returns : goal.returns
returns c = ap (λ (x : StreamContext). x.stream) (stream_read _ c.requires.1 _ c.requires.0)

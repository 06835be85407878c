-- `stream_contexts::stream_at` meets its contract: its words are one row of the table.
use Rattle.std.proofs.Common.{◌≡◌, ap₂}
use Rattle.wire.specs.declared.Flow.{Flow}
use Rattle.contexts.specs.declared.StreamContext.{StreamContext}
use Rattle.contexts.proofs.Words.{stream_read}
use Rattle.stream_contexts.proofs.stream_at.Goals as goal

-- a context whose flow was read by itself
with_flow : (read c : StreamContext) (flow : Flow) → flow ≡ c.flow → read ≡ c → record { live = read.live; flow = flow; stream = read.stream; held = read.held } ≡ c
with_flow read c flow = ap₂ (λ (f : Flow) (x : StreamContext). record { live = x.live; flow = f; stream = x.stream; held = x.held })

pub returns : goal.returns
returns c = with_flow _ _ _ c.stream_flow-flow.ensures (stream_read _ c.requires.1 _ c.requires.0)

-- A stream context is free where its live is 0.
use Rattle.std.proofs.Common.{rules}
use Rattle.contexts.specs.State.{is_free_stream}
use Rattle.abandoning.proofs.StreamsKind.is_free.Goals as goal

pub returns : goal.returns
unfolding is_free_stream
returns c = rw (c.stream_live.ensures) (search rules)

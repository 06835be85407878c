-- `fields::stream_at` meets its contract: flags, then where the data begin, then the flow.
use Rattle.wire.specs.Inside.{stream_head}
use Rattle.fields.proofs.stream_at.Goals as goal

pub returns : goal.returns
unfolding stream_head
returns c =
    (simp (c.data_from.ensures, c.flow_at.ensures, c.wide-flags.ensures.0, c.header.ensures), c.wide-flags.ensures.1)

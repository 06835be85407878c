-- The mixture, read by the endpoint's definition at a desk that was just set up: by computation, with no law between.
use mathlib.Core.Path.{refl}
use Rattle.reading.proofs.Computing.{reads}
use Rattle.cutting.specs.Cutting.{segment_count, segment_data, is_first, is_final, pad_of, flags_of, field_of, packet_of}
use Rattle.flows.specs.Widths.{narrowed}
use Rattle.sending.specs.Sending.{put_of}
use Rattle.sending.specs.Mixture.{MixtureDelivered}

pub mixture_delivered : MixtureDelivered
unfolding reads segment_count segment_data is_first is_final pad_of flags_of field_of packet_of put_of narrowed
mixture_delivered = (refl, (refl, tt))

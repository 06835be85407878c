-- The premises can be met, by computation.
use Prim.Native.Nat.{ℕ}
use mathlib.Core.Path.{refl}
use Rattle.lists.specs.Bytes.{number, in_bytes}
use Rattle.lists.specs.Each.{Each}
use Rattle.wire.specs.Packet.{id_bytes, addressed}
use Rattle.wire.specs.Type9.{same_flow}
use Rattle.wire.specs.Type11.{message_of}
use Rattle.tables.specs.Refusals.{verdict}
use Rattle.wire.specs.Head.{head_rows}
use Rattle.wire.specs.Parsed.{parsed}
use Rattle.cutting.specs.Cutting.{segment_count, segment_data, is_first, is_final, pad_of, flags_of, field_of, packet_of}
use Rattle.flows.specs.Widths.{narrowed, both_widths}
use Rattle.sending.specs.Sending.{put_of, Fair}
use Rattle.sending.specs.Mixture.{small_setup, mixture, MixtureIsFair}
use Rattle.sending.proofs.Decided.{is_fair_lem, deciding}

fair_mixtures : Each (λ (narrow : ℕ). Fair (small_setup narrow) (mixture narrow)) both_widths
unfolding deciding segment_count parsed head_rows verdict message_of number id_bytes narrowed
fair_mixtures = (is_fair_lem (small_setup 0) (mixture 0) refl, (is_fair_lem (small_setup 1) (mixture 1) refl, tt))

pub mixture-is_fair : MixtureIsFair
unfolding segment_count segment_data is_first is_final pad_of flags_of field_of packet_of put_of same_flow addressed in_bytes id_bytes narrowed
mixture-is_fair = (
  record { fair = fair_mixtures.0; loses = refl; left = refl; complete = refl },
  (record { fair = fair_mixtures.1.0; loses = refl; left = refl; complete = refl }, tt),
)

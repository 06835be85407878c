-- A proof by computation looks through every definition of reading, cutting and writing: this names them all, once.
use Rattle.reading.proofs.Computing.{reads}
use Rattle.cutting.specs.Cutting.{segment_count, segment_data, is_first, is_final, pad_of, flags_of, field_of, packet_of, bad_size}
use Rattle.writing.specs.Writer.{writer_table, writing}
use Rattle.wire.specs.Packet.{too_wide}
use Rattle.flows.specs.Widths.{narrowed}

unfoldable pub computing : Unit {0}
unfolding reads segment_count segment_data is_first is_final pad_of flags_of field_of packet_of bad_size too_wide writer_table writing narrowed
computing = tt

-- A proof by computation looks through every definition of reading: this names them all, once.
use Rattle.lists.specs.Bytes.{bytes_from, number, in_bytes, written}
use Rattle.lists.specs.First.{first_of, any}
use Rattle.lists.specs.Rows.{rows, joined}
use Rattle.tables.specs.Refusals.{verdict, given}
use Rattle.wire.specs.Packet.{id_bytes, addressed}
use Rattle.wire.specs.Type9.{same_flow, segment_at, segment_of}
use Rattle.wire.specs.Type11.{message_of}
use Rattle.wire.specs.Head.{head_rows}
use Rattle.wire.specs.Parsed.{parsed}
use Rattle.sizes.specs.Sizes.{bad_mtu, pdu_length, data_length, bytes_of, in_eights}
use Rattle.responses.specs.Type13.{response_to, answered}
use Rattle.rules.specs.Segments.{malformed, wrong_form}
use Rattle.rules.specs.Messages.{reserved_size, bad_length, past_last, form_rows}
use Rattle.marks.specs.Marks.{marked, all_marked}
use Rattle.contexts.specs.State.{is_free_stream, is_free_message, is_of_flow, is_of_message, flow_context, free_stream, message_context, free_message}
use Rattle.contexts.specs.Words.{state_of, words_of}
use Rattle.refusal19.specs.Refusal19.{bad_room, bad_stream, bad_last, bad_marks, bad_message, named_by_19}
use Rattle.stream_rooms.specs.Placing as stream_rooms
use Rattle.streams.specs.Joining as stream
use Rattle.streams.specs.Rows.{missized, not_open, passes_room, none_free, length_differs, stream_rows}
use Rattle.message_rooms.specs.Placing as message_rooms
use Rattle.messages.specs.Joining as message
use Rattle.messages.specs.Rows.{message_found, other_message, already_marked, needed_none_free, message_rows}
use Rattle.reading.specs.Table.{wrong_sizes, lent_rows, table}
use Rattle.reading.specs.Read.{reading}

unfoldable pub reads : Unit {0}
unfolding bytes_from number in_bytes written first_of any rows joined verdict given
    id_bytes addressed same_flow segment_at segment_of message_of head_rows parsed bad_mtu pdu_length data_length bytes_of in_eights response_to answered
    malformed wrong_form reserved_size bad_length past_last form_rows
    marked all_marked is_free_stream is_free_message is_of_flow is_of_message flow_context free_stream message_context free_message state_of words_of
    bad_room bad_stream bad_last bad_marks bad_message named_by_19
    stream_rooms.placed stream.accepted stream.refused_closing missized not_open passes_room none_free length_differs stream_rows
    message.delivered_at_once message_rooms.message_placed message.message_accepted message_found other_message already_marked needed_none_free message_rows
    wrong_sizes lent_rows table reading
reads = tt

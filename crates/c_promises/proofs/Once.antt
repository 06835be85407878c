-- Each promise is an equation with one side that the inputs fix, so two outcomes are equal.
use mathlib.Core.Path.{sym, ◌∙◌}
use Rattle.answers.proofs.Once.{both}
use Rattle.c_promises.specs.OfCalls.{SetupFromCOnce, ReadFromCOnce, BurstOnce, AbandonStreamFromCOnce, AbandonMessageFromCOnce, StreamPlaceOnce, MessagePlaceOnce, WriteFromCOnce}
use Rattle.c_promises.specs.OfCalls.{StreamContextFromCOnce, MessageContextFromCOnce, WriteRecordFromCOnce}

pub setup_from_c_once : SetupFromCOnce
setup_from_c_once words settings y z p q = both (p.answer ∙ sym q.answer) (p.state ∙ sym q.state)

pub read_from_c_once : ReadFromCOnce
read_from_c_once x y z p q = both (p.report ∙ sym q.report) (p.desk ∙ sym q.desk)

pub burst_once : BurstOnce
burst_once pause d reports burst y z p q = p ∙ sym q

pub abandon_stream_from_c_once : AbandonStreamFromCOnce
abandon_stream_from_c_once words n y z p q = both (p.answer ∙ sym q.answer) (p.state ∙ sym q.state)

pub abandon_message_from_c_once : AbandonMessageFromCOnce
abandon_message_from_c_once words n y z p q = both (p.answer ∙ sym q.answer) (p.state ∙ sym q.state)

pub stream_context_from_c_once : StreamContextFromCOnce
stream_context_from_c_once words n y z p q = p ∙ sym q

pub message_context_from_c_once : MessageContextFromCOnce
message_context_from_c_once words n y z p q = p ∙ sym q

pub stream_place_once : StreamPlaceOnce
stream_place_once words size n l y z p q = p ∙ sym q

pub message_place_once : MessagePlaceOnce
message_place_once words size n l y z p q = p ∙ sym q

pub write_from_c_once : WriteFromCOnce
write_from_c_once out h mtu pdu k y z p q = both (p.answer ∙ sym q.answer) (p.packet ∙ sym q.packet)

pub write_record_from_c_once : WriteRecordFromCOnce
write_record_from_c_once out packet y z p q = both (p.answer ∙ sym q.answer) (p.written_out ∙ sym q.written_out)

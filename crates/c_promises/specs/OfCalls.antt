-- What holds of the functions that C calls, as statements. Each is proved in proofs/.
use Rattle.std.specs.Prelude.{ℕ, zero, suc, ◌+◌, ◌-◌, ◌*◌, ◌^◌, ◌≤◌, ◌<◌, ◌≡◌, List, [], ◌∷◌, ◌++◌, map, true, false, cond, length, take, drop, replicate, eqb}
use Rattle.lists.specs.Bytes.{AreBytes}
use Rattle.lists.specs.Each.{Each}
use Rattle.lists.specs.Rows.{rows}
use Rattle.tables.specs.Refusals.{accept}
use Rattle.answers.specs.Once.{Outcome, OneOutcome, Once}
use Rattle.wire.specs.declared.Flow.{Flow}
use Rattle.responses.specs.Type13.{response_size, answered}
use Rattle.wire.specs.declared.Setup.{Setup}
use Rattle.wire.specs.Packet.{ids_of, too_wide}
use Rattle.contexts.specs.State.{ids_in, stream_contexts, message_contexts}
use Rattle.message_rooms.specs.Placing.{message_room_bytes}
use Rattle.reading.specs.Desk.{Desk, state_on, with_response}
use Rattle.reading.specs.Table.{Lent, lent, state_in}
use Rattle.reading.specs.Read.{reading}
use Rattle.room_parts.specs.Parts.{part}
use Rattle.cutting.specs.declared.Heading.{Heading}
use Rattle.writing.specs.Writer.{CountPromise}
use Rattle.flows.specs.OneFlow.{pdu}
use Rattle.flows.specs.Deliveries.{Delivery, delivery}
use Rattle.flows.specs.Fresh.{Allowed, Lends, zero_desk}
use Rattle.flows.specs.Widths.{both_widths}
use Rattle.sending.specs.Sending.{Sent, heading_for, Sending, packets, whole, FairPDU, Fair}
use Rattle.sending.specs.Mixture.{small_setup, mixture}
use Rattle.calls.specs.Calls.{Reads}
use Rattle.demands.specs.Writes.{Writes}
use Rattle.log_records.specs.Records.{records, records_of}
use Rattle.log_records.specs.Written.{written_log, AllShort}
use Rattle.c_reports.specs.declared.Report.{Report}
use Rattle.c_reports.specs.Reports.{report_words, report_in}
use Rattle.c_answers.specs.declared.Numbers.{Numbers}
use Rattle.c_places.specs.declared.Place.{Place}
use Rattle.c_places.specs.Places.{place_of, StreamPlacePromise, MessagePlacePromise}
use Rattle.c_bursts.specs.declared.Burst.{Burst}
use Rattle.c_bursts.specs.Bursts.{slot_bytes, Run, run, report_for, behind, step_left, at_end, is_full, at_delivery, answering, stopped, Finished, room_for, burst_verdict, read_burst, BurstPromise}
use Rattle.answers.specs.Kinds.{delivered_kind, message_kind, ready_kind, written_kind}
use Rattle.kaiverohm.specs.Exports.{SetupFromCPromise, ReadFromCPromise, AbandonStreamFromCPromise, AbandonMessageFromCPromise, WriteFromCPromise}
use Rattle.kaiverohm.specs.Exports.{StreamContextFromCPromise, MessageContextFromCPromise, WriteRecordFromCPromise}

-- ---- What a report says of the response is what reading wrote there.

-- the bytes of response that a report names, and the response buffer as it is left: none and as it was, or a response to the packet, of its size at the width of the endpoint
pub data Reply (x : Lent) : ℕ → List ℕ → Type 0 where
  silent : Reply x 0 x.desk.response
  answers : (status : ℕ) → Reply x (response_size (ids_in (state_in x))) (answered (ids_in (state_in x)) x.desk.response x.packet status)

abbrev pub ReportsReply : Type 0
ReportsReply = (x : Lent) → Reply x (report_for (reading x)).response (reading x).desk.response

-- ---- A burst of whole records that has room for all its packets is read to its end: as many reports as packets, each packet read at the
-- desk that the one before left.

-- the packets one after another; the next record then begins at `end`
abbrev pub all_read_in : ℕ → Run → List (List ℕ) → Run
all_read_in end r [] = run r.desk r.reports r.count end
all_read_in end r (packet ∷ packets) = all_read_in end (behind r packet end) packets

-- whole records, a desk that rows 19 and 12 pass, and room for a report and a response of each packet
pub record WholeBurst (d : Desk) (reports burst : List ℕ) (packets : List (List ℕ)) : Type 0 where
  pub whole-records : records_of burst ≡ records packets true
  pub passed : burst_verdict d ≡ accept
  pub room : length packets ≤ room_for (length reports) (length d.response)

abbrev pub BurstIsCalls : Type 0
BurstIsCalls =
    (d : Desk) (reports burst : List ℕ) (packets : List (List ℕ)) → WholeBurst d reports burst packets
    → read_burst 0 d reports burst ≡ stopped (step_left at_end (all_read_in (length burst) (run d reports 0 0) packets))

-- a desk that was just set up, with responses for nine; and their reports
abbrev pub desk_for_nine : (narrow : ℕ) → Desk
desk_for_nine narrow = with_response (zero_desk (small_setup narrow)) (replicate (slot_bytes * 9) 0)

abbrev pub nine_reports : List ℕ
nine_reports = replicate (report_words * 9) 0

-- these premises can be met, at both widths: by the packets of a sending with losses, mixed flows and messages between, of which there are nine
pub record BurstAt (narrow : ℕ) : Type 0 where
  pub short : AllShort (packets (small_setup narrow) (mixture narrow))
  pub whole_burst : WholeBurst (desk_for_nine narrow) nine_reports (written_log (packets (small_setup narrow) (mixture narrow))) (packets (small_setup narrow) (mixture narrow))

abbrev pub BurstNotEmpty : Type 0
BurstNotEmpty = Each BurstAt both_widths

-- ---- A place lies inside the caller's memory: whatever stands in the words, and whatever size, number and length are asked for.

pub record PlacesInside : Type 0 where
  pub stream : (words : List ℕ) (size n l : ℕ) (place : Place) → StreamPlacePromise words size n l place → place.offset + place.length ≤ size
  pub message : (words : List ℕ) (size n l : ℕ) (place : Place) → MessagePlacePromise words size n l place → place.offset + place.length ≤ size

-- ---- The room of what is delivered, from C: after a delivery the room call with the report's context and length answers the whole place, no
-- empty one: the part that Rattle's call hands back. Of PDUs and of messages.

-- there are so many rooms of so many bytes in that memory
pub record PlaceOfDelivered (rooms room context size : ℕ) (place : Place) : Type 0 where
  -- the context is one of them, the length is not 0, and stays within its room
  pub below : context < rooms
  pub some_byte : 1 ≤ size
  pub within : size ≤ room
  -- the place is that of the room's first bytes, so many
  pub whole-place : place ≡ place_of (part (context * room) size)

pub record RoomOfDeliveredFromC : Type 0 where
  pub of_PDU : (x : Lent) (place : Place) → (report_for (reading x)).kind ≡ delivered_kind
      → StreamPlacePromise (reading x).desk.words (length (reading x).desk.stream_memory) (report_for (reading x)).context (report_for (reading x)).length place
      → PlaceOfDelivered stream_contexts (state_on (reading x).desk).setup.room (report_for (reading x)).context (report_for (reading x)).length place
  pub of_message_lem : (x : Lent) (place : Place) → AreBytes x.packet → (report_for (reading x)).kind ≡ message_kind
      → MessagePlacePromise (reading x).desk.words (length (reading x).desk.message_memory) (report_for (reading x)).context (report_for (reading x)).length place
      → PlaceOfDelivered message_contexts message_room_bytes (report_for (reading x)).context (report_for (reading x)).length place

-- ---- Demands 2 and 3 from C: what a caller makes of the reports is exactly what is whole.

-- the bytes at a place of a memory
abbrev pub bytes_at : List ℕ → Place → List ℕ
bytes_at memory place = take place.length (drop place.offset memory)

-- the flow that a report names
abbrev pub flow_in : Report → Flow
flow_in r = record { source = r.source; priority = r.priority; cos = r.cos_or_letter }

-- What a caller in C fetches after a report. A PDU is delivered: one call of `kaiverohm_stream_room` with the report's context and length,
-- for the stream memory as it was left; its bytes are those at the place that the call answers. After any other report nothing is fetched
pub data FetchesFromC (d : Desk) (r : Report) : List Delivery → Type 0 where
  at_place : (place : Place) → r.kind ≡ delivered_kind
      → StreamPlacePromise d.words (length d.stream_memory) r.context r.length place
      → FetchesFromC d r (delivery (flow_in r) (pdu r.stream_or_mailbox (bytes_at d.stream_memory place)) ∷ [])
  nothing : (r.kind ≡ delivered_kind → ⊥) → FetchesFromC d r []

-- calls of `kaiverohm_read`, one for each packet, as `Reads` (calls/specs/Calls.antt); and what is fetched after their reports
pub data ReadsFromC : Desk → List (List ℕ) → List Delivery → Type 0 where
  no_more : {d : Desk} → ReadsFromC d [] []
  one_more : {d next : Desk} {p : List ℕ} {ps : List (List ℕ)} {fetched ds : List Delivery} (r : Report) (given : List ℕ)
      → response_size (ids_in (state_on d)) ≤ length given
      → ReadFromCPromise (lent (with_response d given) p) r next
      → FetchesFromC next r fetched
      → ReadsFromC next ps ds
      → ReadsFromC d (p ∷ ps) (fetched ++ ds)

abbrev pub CallsFromCAreReads : Type 0
CallsFromCAreReads = (d : Desk) (ps : List (List ℕ)) (ds : List Delivery) → ReadsFromC d ps ds → Reads d ps ds

-- from fresh: a setup from C said ready, and memories that 12 allows are lent
pub record SetUpFromC (setup : Setup) (d : Desk) : Type 0 where
  pub device_ID : setup.device < 65536
  pub before : List ℕ
  pub answer : Numbers
  pub promised : SetupFromCPromise before setup answer d.words
  pub ready : answer.kind ≡ ready_kind
  pub lends : Lends setup d

-- `kaiverohm_write_segment` for n segments of a PDU from number k on, as `Writes`: each with any output buffer, each answer a length
pub data WritesFromC (setup : Setup) (flow : Flow) (s : Sent) : (k n : ℕ) → List (List ℕ) → Type 0 where
  no_segment : {k : ℕ} → WritesFromC setup flow s k zero []
  one-segment : {k n : ℕ} {ps : List (List ℕ)} (out left : List ℕ) (answer : Numbers)
      → WriteFromCPromise out (heading_for setup flow s) setup.mtu s.pdu.bytes k answer left
      → answer.kind ≡ written_kind
      → WritesFromC setup flow s (suc k) n ps
      → WritesFromC setup flow s k (suc n) (take answer.number left ∷ ps)

abbrev pub WritesFromCAreWrites : Type 0
WritesFromCAreWrites = (setup : Setup) (flow : Flow) (s : Sent) (k n : ℕ) (ps : List (List ℕ)) → WritesFromC setup flow s k n ps → Writes setup flow s k n ps

-- DEMAND 2 from C, as `Demand2OfCalls` (demands/specs/OfCalls.antt): setup, as many calls of the writer as `kaiverohm_segment_count` says, and a call
-- for each packet
abbrev pub Demand2FromC : Type 0
Demand2FromC =
    (setup : Setup) (d : Desk) (flow : Flow) (s : Sent) (count : ℕ) (ps : List (List ℕ)) (ds : List Delivery)
    → SetUpFromC setup d
    → flow.source < 256 ^ ids_of setup → flow.priority ≤ 3 → flow.cos < 256 → FairPDU setup.room s
    → CountPromise setup.mtu (length s.pdu.bytes) count → WritesFromC setup flow s 0 count ps
    → ReadsFromC d ps ds
    → ds ≡ delivery flow s.pdu ∷ []

-- DEMAND 3 from C: setup, and then a call for each packet
abbrev pub Demand3FromC : Type 0
Demand3FromC =
    (setup : Setup) (d : Desk) (s : Sending) (ds : List Delivery)
    → SetUpFromC setup d → Fair setup s
    → ReadsFromC d (packets setup s) ds
    → ds ≡ whole setup s

-- the calls can be made: setup says ready at a desk whose memories are zeros; at any desk there are calls for any packets; and every PDU that a room
-- holds can be written, from a source that 47 passes and at a priority that 17 passes
pub record CallsFromCNotEmpty : Type 0 where
  pub sets_up : (setup : Setup) → Allowed setup → SetUpFromC setup (zero_desk setup)
  pub reads : (d : Desk) (ps : List (List ℕ)) → (ds : List Delivery) × ReadsFromC d ps ds
  pub writes : (setup : Setup) (flow : Flow) (s : Sent) (count : ℕ) → Allowed setup → too_wide setup.narrow flow.source ≡ false → flow.priority ≤ 3 → FairPDU setup.room s
      → CountPromise setup.mtu (length s.pdu.bytes) count
      → (ps : List (List ℕ)) × WritesFromC setup flow s 0 count ps

-- A burst is such calls, each with a slot of its own as its response buffer.

-- a PDU by its name: flow, streamID and length
pub record Name : Type 0 where
  pub flow : Flow
  pub stream : ℕ
  pub size : ℕ

abbrev pub name_of : Delivery → Name
name_of d = record { flow = d.flow; stream = d.pdu.stream; size = length d.pdu.bytes }

-- the first n reports of a buffer, and report k
abbrev pub reports_in : ℕ → List ℕ → List Report
reports_in n reports = map report_in (rows report_words n reports)

abbrev pub report_at : List ℕ → ℕ → Report
report_at reports k = report_in (take report_words (drop (report_words * k) reports))

-- the names in reports
abbrev pub names_in : List Report → List Name
names_in [] = []
names_in (r ∷ rs) =
    cond (eqb r.kind delivered_kind) (record { flow = flow_in r; stream = r.stream_or_mailbox; size = r.length } ∷ names_in rs) (names_in rs)

-- Without a pause: all packets are read, by calls that deliver `ds`, and the reports name these. A delivered PDU's bytes are those in its room when
-- its packet was read; a later packet of the burst may take the room and write over them before the call returns.
pub record BurstReads (d : Desk) (burst : List ℕ) (packets : List (List ℕ)) (answer : Burst) (reports : List ℕ) (ds : List Delivery) : Type 0 where
  pub all_read : answer ≡ answering at_end 0 (length packets) (length burst)
  pub reads : Reads d packets ds
  pub names : names_in (reports_in (length packets) reports) ≡ map name_of ds

abbrev pub BurstIsReads : Type 0
BurstIsReads =
    (d : Desk) (reports burst : List ℕ) (packets : List (List ℕ)) (answer : Burst) (after : Desk) (reports' : List ℕ)
    → WholeBurst d reports burst packets → BurstPromise 0 d reports burst answer after reports'
    → (ds : List Delivery) × BurstReads d burst packets answer reports' ds

abbrev pub Demand3OfBursts : Type 0
Demand3OfBursts =
    (setup : Setup) (d : Desk) (s : Sending) (reports burst : List ℕ) (answer : Burst) (after : Desk) (reports' : List ℕ)
    → SetUpFromC setup d → Fair setup s
    → WholeBurst d reports burst (packets setup s) → BurstPromise 0 d reports burst answer after reports'
    → BurstReads d burst (packets setup s) answer reports' (whole setup s)

-- With a pause the burst stops behind each delivery, so that the bytes are in the room when the call returns.

-- a call that is asked to pause, with any buffers for responses and reports; and how it finished
pub record PausedCall (d : Desk) (burst : List ℕ) (f : Finished) : Type 0 where
  pub pause : ℕ
  pub asked : pause ≡ 0 → ⊥
  pub responses : List ℕ
  pub reports : List ℕ
  pub promised : BurstPromise pause (with_response d responses) reports burst f.answer f.desk f.reports

-- the last report of a call
abbrev pub last_report : Finished → Report
last_report f = report_at f.reports (f.answer.count - 1)

-- Such calls, each over the records that the one before left unread, with the state and the memories that it left; until one stops at the
-- end. Where one stopped at a delivery, the caller fetches what its last report names.
pub data Bursts : Desk → List ℕ → List Delivery → Type 0 where
  ended : {d : Desk} {burst : List ℕ} (f : Finished) → PausedCall d burst f → f.answer.stop ≡ at_end → Bursts d burst []
  full : {d : Desk} {burst : List ℕ} {ds : List Delivery} (f : Finished) → PausedCall d burst f → f.answer.stop ≡ is_full
      → Bursts f.desk (drop f.answer.next burst) ds → Bursts d burst ds
  paused : {d : Desk} {burst : List ℕ} {fetched ds : List Delivery} (f : Finished) → PausedCall d burst f → f.answer.stop ≡ at_delivery
      → FetchesFromC f.desk (last_report f) fetched
      → Bursts f.desk (drop f.answer.next burst) ds → Bursts d burst (fetched ++ ds)

-- such calls can be made, over the packets of that sending; and these deliver what is whole of it
abbrev pub PausedBurstsNotEmpty : Type 0
PausedBurstsNotEmpty =
    Each (λ (narrow : ℕ). Bursts (zero_desk (small_setup narrow)) (written_log (packets (small_setup narrow) (mixture narrow))) (whole (small_setup narrow) (mixture narrow))) both_widths

-- over a burst of written records these are calls for each packet
abbrev pub PausedBurstsAreReads : Type 0
PausedBurstsAreReads = (d : Desk) (packets : List (List ℕ)) (ds : List Delivery) → AllShort packets → Bursts d (written_log packets) ds → Reads d packets ds

abbrev pub Demand3OfPausedBursts : Type 0
Demand3OfPausedBursts =
    (setup : Setup) (d : Desk) (s : Sending) (ds : List Delivery)
    → SetUpFromC setup d → Fair setup s
    → AllShort (packets setup s) → Bursts d (written_log (packets setup s)) ds
    → ds ≡ whole setup s

-- ---- Determinism: any two outcomes that a promise allows are one, in the answer and in everything lent.

abbrev pub SetupFromCOnce : Type 0
SetupFromCOnce = (words : List ℕ) (settings : Setup) → OneOutcome (λ (y : Outcome Numbers (List ℕ)). SetupFromCPromise words settings y.answer y.after)

abbrev pub ReadFromCOnce : Type 0
ReadFromCOnce = Once (λ (x : Lent) (y : Outcome Report Desk). ReadFromCPromise x y.answer y.after)

abbrev pub BurstOnce : Type 0
BurstOnce = (pause : ℕ) (d : Desk) (reports burst : List ℕ) → OneOutcome (λ (y : Finished). BurstPromise pause d reports burst y.answer y.desk y.reports)

abbrev pub AbandonStreamFromCOnce : Type 0
AbandonStreamFromCOnce = (words : List ℕ) (n : ℕ) → OneOutcome (λ (y : Outcome Numbers (List ℕ)). AbandonStreamFromCPromise words n y.answer y.after)

abbrev pub AbandonMessageFromCOnce : Type 0
AbandonMessageFromCOnce = (words : List ℕ) (n : ℕ) → OneOutcome (λ (y : Outcome Numbers (List ℕ)). AbandonMessageFromCPromise words n y.answer y.after)

abbrev pub StreamContextFromCOnce : Type 0
StreamContextFromCOnce = (words : List ℕ) (n : ℕ) → OneOutcome (StreamContextFromCPromise words n)

abbrev pub MessageContextFromCOnce : Type 0
MessageContextFromCOnce = (words : List ℕ) (n : ℕ) → OneOutcome (MessageContextFromCPromise words n)

abbrev pub StreamPlaceOnce : Type 0
StreamPlaceOnce = (words : List ℕ) (size n l : ℕ) → OneOutcome (StreamPlacePromise words size n l)

abbrev pub MessagePlaceOnce : Type 0
MessagePlaceOnce = (words : List ℕ) (size n l : ℕ) → OneOutcome (MessagePlacePromise words size n l)

abbrev pub WriteFromCOnce : Type 0
WriteFromCOnce = (out : List ℕ) (h : Heading) (mtu : ℕ) (pdu : List ℕ) (k : ℕ) → OneOutcome (λ (y : Outcome Numbers (List ℕ)). WriteFromCPromise out h mtu pdu k y.answer y.after)

abbrev pub WriteRecordFromCOnce : Type 0
WriteRecordFromCOnce = (out packet : List ℕ) → OneOutcome (λ (y : Outcome Numbers (List ℕ)). WriteRecordFromCPromise out packet y.answer y.after)

-- Calls from C are calls: a report and the numbers of an answer say what the answer says, and a place is the part that the room call hands back.
use Prim.Native.Nat.{ℕ, ◌+◌}
use mathlib.Core.Path.{◌≡◌, refl, ap, ap₂, sym, ◌∙◌, subst}
use mathlib.Core.List.{List, [], ◌∷◌}
use mathlib.Core.Bool.{Bool}
use native.Mathlib.Omega.{arith}
use lib.ListN.{length}
use denote.Ref.{Bor}
use Rattle.answers.specs.Answers.{Said, said, held, delivered, message, refused, SetupSaid, ready, setup_refused, WriterSaid, wrote, write_refused}
use Rattle.wire.specs.declared.Flow.{Flow}
use Rattle.wire.specs.declared.Setup.{Setup}
use Rattle.reading.specs.Desk.{Desk, with_response}
use Rattle.reading.specs.Table.{Lent, lent}
use Rattle.reading.specs.Read.{reading, ReadPromise}
use Rattle.reading.proofs.Spoken.{answered_by, says_it, promised}
use Rattle.endpoint.specs.Calls.{setup}
use Rattle.answers.specs.Stands.{stands}
use Rattle.room_parts.specs.Parts.{stream_room}
use Rattle.writing.specs.Writer.{wrote_of, writing}
use Rattle.flows.specs.OneFlow.{pdu}
use Rattle.flows.specs.Deliveries.{Delivery, delivery}
use Rattle.sending.specs.Sending.{Sent, heading_for}
use Rattle.c_reports.specs.declared.Report.{Report}
use Rattle.c_reports.specs.Reports.{report_of}
use Rattle.c_answers.specs.declared.Numbers.{Numbers}
use Rattle.c_answers.specs.Numbers.{numbers_of_setup, numbers_of_writer}
use Rattle.c_places.specs.declared.Place.{Place}
use Rattle.c_places.specs.Places.{StreamPlacePromise}
use Rattle.calls.specs.Calls.{Fetches, room, none-held, none_message, none_refused, Reads, stop, call}
use Rattle.demands.specs.Writes.{Writes, written_all, write}
use Rattle.demands.specs.OfCalls.{SetUp}
use Rattle.demands.proofs.OfCalls.{demand2_of_calls, demand3_of_calls}
use Rattle.c_promises.specs.OfCalls.{bytes_at, FetchesFromC, at_place, nothing, ReadsFromC, no_more, one_more, CallsFromCAreReads, SetUpFromC}
use Rattle.answers.specs.Kinds.{ready_kind, written_kind}
use Rattle.c_promises.specs.OfCalls.{WritesFromC, no_segment, one-segment, WritesFromCAreWrites, Demand2FromC, Demand3FromC}

-- ---- What is fetched

-- a place that C is told is the part that `stream_room` hands back, over a memory that lies anywhere
pub room-made : (d : Desk) (context : ℕ) (flow : Flow) (stream size : ℕ) (place : Place) → StreamPlacePromise d.words (length d.stream_memory) context size place
    → Fetches d (delivered context flow stream size) (delivery flow (pdu stream (bytes_at d.stream_memory place)) ∷ [])
room-made d context flow stream size place e = room memory handed refl (record { block = refl; offset = refl; bytes = ap (bytes_at d.stream_memory) e })
  where
    memory : Bor (List ℕ)
    memory = record { ref_ptr = (0, 0); now = d.stream_memory }

    handed : Bor (List ℕ)
    handed = record { ref_ptr = (0, 0 + (stream_room d.words (length d.stream_memory) context size).from); now = bytes_at d.stream_memory place }

-- so what is fetched from C after a report is fetched after the answer; the desk's own response buffer is not looked at
pub fetched_from_c : (d : Desk) (own : List ℕ) (says : Said) (dropped : Bool) (replied : ℕ) {fetched : List Delivery}
    → FetchesFromC (with_response d own) (report_of says dropped replied) fetched → Fetches d says fetched
unfolding report_of
fetched_from_c d own held dropped replied (nothing other) = none-held
fetched_from_c d own held dropped replied (at_place place two e) = absurd (omega (arith, two))
fetched_from_c d own (message context source letter mailbox size) dropped replied (nothing other) = none_message
fetched_from_c d own (message context source letter mailbox size) dropped replied (at_place place two e) = absurd (omega (arith, two))
fetched_from_c d own (refused number) dropped replied (nothing other) = none_refused
fetched_from_c d own (refused number) dropped replied (at_place place two e) = absurd (omega (arith, two))
fetched_from_c d own (delivered context flow stream size) dropped replied (at_place place two e) = room-made d context flow stream size place e
fetched_from_c d own (delivered context flow stream size) dropped replied (nothing other) = absurd (other refl)

-- ---- Calls for one packet each

-- the desk's own response buffer is not looked at
pub other_buffer : {d : Desk} {ps : List (List ℕ)} {ds : List Delivery} (own : List ℕ) → Reads d ps ds → Reads (with_response d own) ps ds
other_buffer own stop = stop
other_buffer own (call r given enough promise fetch more) = call r given enough promise fetch more

-- what is fetched after what reading says is fetched after the answer that says it
pub after_answer : (x : Lent) (d : Desk) {fetched : List Delivery} → Fetches d (reading x).says fetched → Fetches d (said (answered_by x).answer) fetched
after_answer x d {fetched = fetched} = subst (λ (says : Said). Fetches d says fetched) (sym (says_it x))

are_reads : {d : Desk} {ps : List (List ℕ)} {ds : List Delivery} → ReadsFromC d ps ds → Reads d ps ds
are_reads no_more = stop
are_reads (one_more {d = d} {next = next} {p = p} {fetched = fetched} r given enough promise fetch calls) =
    let x : Lent = lent (with_response d given) p in
    let fetch' = fetched_from_c next next.response (reading x).says (reading x).dropped (reading x).replied (subst (λ (q : Report). FetchesFromC next q fetched) promise.report fetch) in
    let kept : ReadPromise x (answered_by x) next = rw promise.desk (promised x) in
    call (answered_by x) given enough kept (after_answer x next fetch') (are_reads calls)

pub calls_from_c_are_reads : CallsFromCAreReads
calls_from_c_are_reads d ps ds reads = are_reads reads

-- ---- Setting up

-- no other answer of setup has this kind
is_ready : (says : SetupSaid) → (numbers_of_setup says).kind ≡ ready_kind → says ≡ ready
is_ready ready e = refl
is_ready (setup_refused number) e = absurd (omega (arith, e))

pub set_up : {s : Setup} {d : Desk} → SetUpFromC s d → SetUp s d
set_up {s = s} {d = d} up =
    let says = is_ready (setup up.before s).says (ap (λ (n : Numbers). n.kind) (sym up.promised.answer) ∙ up.ready) in
    record {
      device_ID = up.device_ID;
      before = up.before;
      ready = ap₂ (λ (t : SetupSaid) (w : List ℕ). stands t w) (sym says) up.promised.state;
      lends = up.lends;
    }

-- ---- Writing

-- nor of the writer, and the number is the length
is_written : (says : WriterSaid) → (numbers_of_writer says).kind ≡ written_kind → wrote (numbers_of_writer says).number ≡ says
is_written (wrote size) e = refl
is_written (write_refused number) e = absurd (omega (arith, e))

are_writes : {setup : Setup} {flow : Flow} {s : Sent} {k n : ℕ} {ps : List (List ℕ)} → WritesFromC setup flow s k n ps → Writes setup flow s k n ps
are_writes no_segment = written_all
are_writes {setup = setup} {flow = flow} {s = s} {k = k} (one-segment out left answer promise kind more) =
    let says : WriterSaid = (writing out (heading_for setup flow s) setup.mtu s.pdu.bytes k).says in
    let told : wrote answer.number ≡ says =
    ap (λ (a : Numbers). wrote a.number) promise.answer ∙ is_written says (ap (λ (a : Numbers). a.kind) (sym promise.answer) ∙ kind) in
    write out left answer.number (ap₂ (λ (t : WriterSaid) (o : List ℕ). wrote_of t o) told promise.packet) (are_writes more)

pub writes_from_c_are_writes : WritesFromCAreWrites
writes_from_c_are_writes setup flow s k n ps writes = are_writes writes

-- ---- The demands

pub demand2_from_c : Demand2FromC
demand2_from_c s d flow x count ps ds up source priority cos fair says writes reads = demand2_of_calls s d flow x count ps ds (set_up up) source priority cos fair says (are_writes writes) (are_reads reads)

pub demand3_from_c : Demand3FromC
demand3_from_c s d sending ds up fair reads = demand3_of_calls s d sending ds (set_up up) fair.sent_fairly fair.one_loss fair.neighbours (are_reads reads)

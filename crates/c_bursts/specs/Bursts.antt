-- A burst: packets in the log's record form, read one after another, each at the desk that the one before left.
use Rattle.std.specs.Prelude.{ℕ, zero, suc, min, ◌+◌, ◌*◌, ◌/◌, ◌≡◌, List, cond, length, take, drop, eqb, Ok, Err, Some, None}
use Rattle.lists.specs.Bytes.{written}
use Rattle.tables.specs.Refusals.{Verdict, refuse, accept, verdict}
use Rattle.reading.specs.Desk.{Desk, with_response}
use Rattle.reading.specs.Table.{Lent, lent, lent_rows}
use Rattle.reading.specs.Read.{Settled, reading}
use Rattle.log_records.specs.Records.{Found, next_record}
use Rattle.answers.specs.Kinds.{delivered_kind, message_kind}
use Rattle.c_reports.specs.declared.Report.{Report}
use Rattle.c_reports.specs.Reports.{report_of, report_words, words_of_report}
use Rattle.c_bursts.specs.declared.Burst.{Burst}

-- ---- one packet of a burst

-- the bytes that each packet has for its response
abbrev pub slot_bytes : ℕ
slot_bytes = 8

-- a burst as far as it is read: the desk as it stands, with all responses in its response buffer; the reports; the packets read; and where
-- the next record begins
pub record Run : Type 0 where
  pub desk : Desk
  pub reports : List ℕ
  pub count : ℕ
  pub next : ℕ

abbrev pub run : Desk → (reports : List ℕ) → (count next : ℕ) → Run
run desk reports count next = record { desk = desk; reports = reports; count = count; next = next }

-- the slot of packet k: its part of the responses
abbrev pub slot : List ℕ → ℕ → List ℕ
slot responses k = take slot_bytes (drop (slot_bytes * k) responses)

-- what the next packet is lent: the desk, with the packet's slot as its response buffer
abbrev pub lent_in : Run → List ℕ → Lent
lent_in r packet = lent (with_response r.desk (slot r.desk.response r.count)) packet

-- what reading it answers and leaves, as the call for one packet
abbrev pub read_in : Run → List ℕ → Settled
read_in r packet = reading (lent_in r packet)

-- the report of what reading a packet answers
abbrev pub report_for : Settled → Report
report_for x = report_of x.says x.dropped x.replied

-- the packet is read: its response stands in its slot, its report in its own words
abbrev pub answers_placed : Run → ℕ → Settled → Run
answers_placed r next x =
    run
    (with_response x.desk (written r.desk.response (slot_bytes * r.count) x.desk.response))
    (written r.reports (report_words * r.count) (words_of_report (report_for x)))
    (r.count + 1)
    next

abbrev pub behind : Run → List ℕ → ℕ → Run
behind r packet next = answers_placed r next (read_in r packet)

-- the kind of its report
abbrev pub kind_in : Run → List ℕ → ℕ
kind_in r packet = (report_for (read_in r packet)).kind

-- ---- one step: a packet is read, or the burst stops

-- why a burst stops
abbrev pub refused_all : ℕ
refused_all = 0

abbrev pub at_end : ℕ
at_end = 1

abbrev pub at_bad : ℕ
at_bad = 2

abbrev pub is_full : ℕ
is_full = 3

abbrev pub at_delivery : ℕ
at_delivery = 4

-- whether the burst stops behind a packet: where the caller asked for it, and the packet delivers a PDU or a message
unfoldable pub pause_of : ℕ → ℕ → ℕ
pause_of pause kind = cond (eqb pause 0) 0 (cond (eqb kind delivered_kind) at_delivery (cond (eqb kind message_kind) at_delivery 0))

-- the run behind a step, and why it stops there; 0: it goes on
pub record StepLeft : Type 0 where
  pub stop : ℕ
  pub after : Run

abbrev pub step_left : ℕ → Run → StepLeft
step_left stop after = record { stop = stop; after = after }

abbrev pub step_over : ℕ → Run → List ℕ → ℕ → StepLeft
step_over pause r packet next = step_left (pause_of pause (kind_in r packet)) (behind r packet next)

-- by what stands at its place, where `room` packets more have room for their reports and responses
abbrev pub step_by : ℕ → ℕ → List ℕ → Run → Found → StepLeft
step_by pause room burst r (Ok None) = step_left at_end r
step_by pause room burst r (Err _) = step_left at_bad r
step_by pause room burst r (Ok (Some found)) = cond (eqb room 0) (step_left is_full r) (step_over pause r (take found.size (drop found.from burst)) found.next)

unfoldable pub step_in : ℕ → ℕ → List ℕ → Run → StepLeft
step_in pause room burst r = step_by pause room burst r (next_record burst r.next)

-- ---- the whole burst

-- what the call answers, the desk as it is left, and the reports
pub record Finished : Type 0 where
  pub answer : Burst
  pub desk : Desk
  pub reports : List ℕ

abbrev pub finished : Burst → Desk → (reports : List ℕ) → Finished
finished answer desk reports = record { answer = answer; desk = desk; reports = reports }

abbrev pub answering : ℕ → ℕ → ℕ → ℕ → Burst
answering stop number count next = record { stop = stop; number = number; count = count; next = next }

-- it stops: how many packets were read, and where the first unread record begins
abbrev pub stopped : StepLeft → Finished
stopped t = finished (answering t.stop 0 t.after.count t.after.next) t.after.desk t.after.reports

abbrev pub onward : (Run → Finished) → StepLeft → Finished
onward more t = cond (eqb t.stop 0) (more t.after) (stopped t)

-- packet after packet, while there is room
unfoldable pub ran : ℕ → ℕ → List ℕ → Run → Finished
ran pause zero burst r = stopped (step_in pause zero burst r)
ran pause (suc room) burst r = onward (ran pause room burst) (step_in pause (suc room) burst r)

-- the packets that have room for a report and a response each
unfoldable pub room_for : ℕ → ℕ → ℕ
room_for words bytes = min (words / report_words) (bytes / slot_bytes)

-- rows 19 and 12 of the refusal table look at no packet: they are tested once
abbrev pub burst_verdict : Desk → Verdict
burst_verdict d = verdict (lent_rows d)

abbrev pub burst_by : ℕ → Desk → (reports burst : List ℕ) → Verdict → Finished
burst_by pause d reports burst (refuse number leaves) = finished (answering refused_all number 0 0) d reports
burst_by pause d reports burst accept = ran pause (room_for (length reports) (length d.response)) burst (run d reports 0 0)

unfoldable pub read_burst : ℕ → Desk → (reports burst : List ℕ) → Finished
read_burst pause d reports burst = burst_by pause d reports burst (burst_verdict d)

-- the promise of `read_burst`: its answer, the desk as it is left, and the reports
abbrev pub BurstPromise : ℕ → Desk → (reports burst : List ℕ) → Burst → Desk → (reports' : List ℕ) → Type 0
BurstPromise pause d reports burst answer after reports' = finished answer after reports' ≡ read_burst pause d reports burst

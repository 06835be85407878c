-- What the functions rely on and promise each other. No promise of a public call speaks of it.
use Rattle.std.specs.Prelude.{ℕ, ◌+◌, ◌*◌, ◌≤◌, ◌≡◌, List, length, Option, None, Some, Result}
use Rattle.refusals.specs.declared.Refusal.{Refusal}
use Rattle.answers.specs.declared.Answer.{Answer}
use Rattle.answers.specs.Answers.{said}
use Rattle.reading.specs.Desk.{Desk}
use Rattle.reading.specs.Inside.{Fit}
use Rattle.c_reports.specs.Reports.{report_words}
use Rattle.c_bursts.specs.declared.Burst.{Burst}
use Rattle.c_bursts.specs.declared.Step.{Step}
use Rattle.c_bursts.specs.declared.Stop.{Stop}
use Rattle.c_bursts.specs.declared.Stop.TheVariants as why
use Rattle.c_bursts.specs.Bursts.{slot_bytes, refused_all, at_end, at_bad, is_full, at_delivery, Run, run, read_in, behind, step_left, step_in, finished, ran}

-- `room` packets more have room for their responses and reports
pub record Room (r : Run) (room : ℕ) : Type 0 where
  pub replies : slot_bytes * (r.count + room) ≤ length r.desk.response
  pub answers : report_words * (r.count + room) ≤ length r.reports

-- and rows 19 and 12 have passed: what the functions below the tests may rely on
pub record ReadyToRun (r : Run) (room : ℕ) : Type 0 where
  pub fit : Fit r.desk
  pub space : Room r room

-- the number of why a burst stops; 0: it goes on
abbrev pub stop_number : Stop → ℕ
stop_number why.Refused = refused_all
stop_number why.End = at_end
stop_number why.Bad = at_bad
stop_number why.Full = is_full
stop_number why.Delivery = at_delivery

abbrev pub goes_or_stops : Option Stop → ℕ
goes_or_stops None = 0
goes_or_stops (Some stop) = stop_number stop

-- no step stops with 0, as a burst that is refused as a whole does: with 0 it goes on
abbrev pub GoesOnAt0 : Option Stop → Type 0
GoesOnAt0 stop = goes_or_stops stop ≡ 0 → stop ≡ None

-- the promise of reading one packet of a burst
pub record PacketPromise (r : Run) (packet : List ℕ) (answer : Result Answer Refusal) (after : Desk) (reports : List ℕ) : Type 0 where
  pub leaves : run after reports (r.count + 1) r.next ≡ behind r packet r.next
  pub reported : said answer ≡ (read_in r packet).says
  pub fit : Fit after

-- the promise of a step
pub record StepPromise (pause room : ℕ) (burst : List ℕ) (r : Run) (t : Step) (after : Desk) (reports : List ℕ) : Type 0 where
  pub leaves : step_left (goes_or_stops t.stop) (run after reports t.count t.next) ≡ step_in pause room burst r
  pub goes : GoesOnAt0 t.stop
  pub fit : Fit after

-- the promise of the run behind the tests
abbrev pub RunPromise : ℕ → ℕ → List ℕ → Run → Burst → Desk → List ℕ → Type 0
RunPromise pause room burst r answer after reports = finished answer after reports ≡ ran pause room burst r

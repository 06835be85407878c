-- A step of a burst, by what stands at its place; and the run, step by step.
use Prim.Native.Nat.{ℕ, zero, suc, ◌+◌, ◌-◌}
use mathlib.Core.Path.{◌≡◌, refl, ap, ap₂, sym, ◌∙◌}
use mathlib.Core.List.{List}
use mathlib.Core.Bool.{Bool, true, false, cond}
use native.Mathlib.Omega.{arith}
use lib.Dec.{eqb}
use lib.ListN.{length, take, drop}
use borrow.Author.Tests.{eq-eqb, ne_eqb, eqb-false}
use Rattle.reading.specs.Desk.{Desk}
use Rattle.reading.specs.Inside.{Fit}
use Rattle.std.specs.Prelude.{Result, Ok, Err, Some, None}
use Rattle.refusals.specs.declared.Refusal.{Refusal}
use Rattle.answers.specs.declared.Answer.{Answer}
use Rattle.answers.specs.Answers.{Said, held, delivered, message, refused, said}
use Rattle.log_records.specs.declared.Record.{Record}
use Rattle.log_records.specs.declared.BadLog.{BadLog}
use Rattle.log_records.specs.Records.{Found, next_record}
use Rattle.c_reports.specs.Reports.{kind_of, report_of}
use Rattle.c_bursts.specs.Bursts.{Run, run, StepLeft, step_left, step_over, step_by, read_in, pause_of, step_in, at_end, at_bad, is_full, stopped, ran}
use Rattle.c_bursts.specs.Inside.{ReadyToRun, PacketPromise}

-- ---- one step

-- a report's kind is that of what it says
kind_said : (says : Said) (dropped : Bool) (replied : ℕ) → (report_of says dropped replied).kind ≡ kind_of says
unfolding report_of
kind_said (refused _) _ _ = refl
kind_said held _ _ = refl
kind_said (delivered _ _ _ _) _ _ = refl
kind_said (message _ _ _ _ _) _ _ = refl

module _ (burst : List ℕ) (pause room : ℕ) (r : Run) where
  pub at-end : next_record burst r.next ≡ Ok None → step_left at_end r ≡ step_in pause room burst r
  unfolding step_in
  at-end e = sym (ap (step_by pause room burst r) e)

  pub at_bad_lem : (b : BadLog) → next_record burst r.next ≡ Err b → step_left at_bad r ≡ step_in pause room burst r
  unfolding step_in
  at_bad_lem b e = sym (ap (step_by pause room burst r) e)

  module _ (found : Record) (stands : next_record burst r.next ≡ Ok (Some found)) where
    pub at_full : room ≡ 0 → step_left is_full r ≡ step_in pause room burst r
    unfolding step_in
    at_full z = rw (stands, eq-eqb room 0 z)

    pub over-packet : (room ≡ 0 → ⊥) → step_over pause r (take found.size (drop found.from burst)) found.next ≡ step_in pause room burst r
    unfolding step_in
    over-packet n = rw (stands, ne_eqb room 0 n)

    -- the bytes of the packet, which has its size
    abbrev packet : List ℕ
    packet = take (found.from + found.size - found.from) (drop found.from burst)

    packet_is : packet ≡ take found.size (drop found.from burst)
    packet_is =
        let e : found.from + found.size - found.from ≡ found.size = omega arith in
        ap (λ (k : ℕ). take k (drop found.from burst)) e

    -- read from a run that does not know where the next record begins
    pub at_record : (answer : Result Answer Refusal) (stop : ℕ) (after : Desk) (reports : List ℕ) → (room ≡ 0 → ⊥)
        → PacketPromise (run r.desk r.reports r.count 0) packet answer after reports
        → stop ≡ pause_of pause (kind_of (said answer))
        → step_left stop (run after reports (r.count + 1) found.next) ≡ step_in pause room burst r
    at_record answer stop after reports n p e =
        let x = read_in r packet in
        let kind : kind_of (said answer) ≡ (report_of x.says x.dropped x.replied).kind = ap kind_of p.reported ∙ sym (kind_said x.says x.dropped x.replied) in
        ap₂ (λ (k : ℕ) (y : Run). step_left k (run y.desk y.reports y.count found.next)) (e ∙ ap (pause_of pause) kind) p.leaves
        ∙ (ap (λ (bytes : List ℕ). step_over pause r bytes found.next) packet_is
        ∙ over-packet n)

-- ---- the run

-- behind a step that goes on: it had room, and a packet more was read
record Went (left : ℕ) (r : Run) (t : StepLeft) : Type 0 where
  room : left ≡ 0 → ⊥
  count : t.after.count ≡ r.count + 1

went : (pause left : ℕ) (burst : List ℕ) (r : Run) (t : StepLeft) → t ≡ step_in pause left burst r → t.stop ≡ 0 → Went left r t
unfolding step_in
went pause left burst r t e = rw e (by_next (next_record burst r.next))
  where
    by_room : (packet : List ℕ) (next : ℕ) (b : Bool) → eqb left 0 ≡ b → (cond b (step_left is_full r) (step_over pause r packet next)).stop ≡ 0
        → Went left r (cond b (step_left is_full r) (step_over pause r packet next))
    by_room packet next true e z = absurd (omega (arith, z))
    by_room packet next false e z = record { room = eqb-false left 0 e; count = refl }

    by_next : (x : Found) → (step_by pause left burst r x).stop ≡ 0 → Went left r (step_by pause left burst r x)
    by_next (Ok None) z = absurd (omega (arith, z))
    by_next (Err _) z = absurd (omega (arith, z))
    by_next (Ok (Some found)) z = by_room _ found.next (eqb left 0) refl z

pub had_room : (pause left : ℕ) (burst : List ℕ) (r : Run) (t : StepLeft) → t ≡ step_in pause left burst r → t.stop ≡ 0 → left ≡ 0 → ⊥
had_room pause left burst r t e z = (went pause left burst r t e z).room

-- a step that stops ends the run
pub stops : (pause left : ℕ) (burst : List ℕ) (r : Run) (t : StepLeft) → t ≡ step_in pause left burst r → (t.stop ≡ 0 → ⊥) → stopped t ≡ ran pause left burst r
unfolding ran
stops pause zero burst r t e n = ap stopped e
stops pause (suc left) burst r t e n = rw (← e, ne_eqb t.stop 0 n)

-- and behind one that goes on, so does the run
pub goes_on : (pause left : ℕ) (burst : List ℕ) (r : Run) (t : StepLeft) → t ≡ step_in pause left burst r → t.stop ≡ 0 → ran pause (left - 1) burst t.after ≡ ran pause left burst r
unfolding ran
goes_on pause zero burst r t e z = absurd (had_room pause zero burst r t e z refl)
goes_on pause (suc left) burst r t e z =
    let one : suc left - 1 ≡ left = omega arith in
    rw (one, ← e, eq-eqb t.stop 0 z)

-- ---- the loop

-- everything lent keeps its length
pub record SameSizes (r s : Run) : Type 0 where
  pub words : length s.desk.words ≡ length r.desk.words
  pub streams : length s.desk.stream_memory ≡ length r.desk.stream_memory
  pub messages : length s.desk.message_memory ≡ length r.desk.message_memory
  pub responses : length s.desk.response ≡ length r.desk.response
  pub reports : length s.reports ≡ length r.reports

pub sizes_stay : {r s t : Run} → SameSizes r s → SameSizes s t → SameSizes r t
sizes_stay a b = record {
  words = b.words ∙ a.words;
  streams = b.streams ∙ a.streams;
  messages = b.messages ∙ a.messages;
  responses = b.responses ∙ a.responses;
  reports = b.reports ∙ a.reports;
}

-- its invariant: the desk is fit and there is room for the packets that are left, and the run from here on makes the whole run
pub record Going (pause : ℕ) (burst : List ℕ) (room : ℕ) (start present : Run) (left : ℕ) : Type 0 where
  pub ready : ReadyToRun present left
  pub same : ran pause left burst present ≡ ran pause room burst start
  pub sizes : SameSizes start present

pub begins : (pause : ℕ) (burst : List ℕ) (room : ℕ) (r : Run) → ReadyToRun r room → Going pause burst room r r room
begins pause burst room r f = record { ready = f; same = refl; sizes = record { words = refl; streams = refl; messages = refl; responses = refl; reports = refl } }

pub keeps_going : (pause : ℕ) (burst : List ℕ) (room : ℕ) (start present : Run) (left : ℕ) → Going pause burst room start present left
    → (t : StepLeft) → t ≡ step_in pause left burst present → t.stop ≡ 0 → Fit t.after.desk → SameSizes present t.after
    → Going pause burst room start t.after (left - 1)
keeps_going pause burst room start present left g t e z f sizes =
    let w = went pause left burst present t e z in
    let space = g.ready.space in
    record {
      ready = record {
        fit = f;
        space = record {
          replies = omega (arith, w.room, w.count, sizes.responses, space.replies);
          answers = omega (arith, w.room, w.count, sizes.reports, space.answers);
        };
      };
      same = goes_on pause left burst present t e z ∙ g.same;
      sizes = sizes_stay g.sizes sizes;
    }

-- `c_loops::run_over` meets its contract: each step goes by what its loop's invariant says, and leaves it.
use Rattle.std.proofs.Common.{ℕ, ◌≡◌, refl, ap, sym, ◌∙◌, arith, Some}
use denote.Enum.Declared.{tag_of}
use Rattle.reading.specs.Desk.{desk}
use Rattle.c_bursts.specs.contracts.Stop.{the_type}
use Rattle.c_bursts.specs.declared.Stop.{Stop}
use Rattle.c_bursts.specs.declared.Stop.TheVariants as why
use Rattle.c_bursts.specs.Bursts.{Run, run, StepLeft, step_left, finished, answering}
use Rattle.c_bursts.specs.Inside.{stop_number, goes_or_stops}
use Rattle.c_bursts.proofs.Steps.{SameSizes, stops, had_room, keeps_going}
use Rattle.c_loops.proofs.run_over.Goals as goal
use Rattle.c_loops.proofs.run_over.Goals.{After-step_at-t}

-- ---- behind a step: the run at the loop, what the step left; and that all keeps its length

abbrev present : After-step_at-t → Run
present c =
    let l = c.loop-stop in
    run (desk l.state l.stream_memory l.message_memory l.responses) l.reports l.count l.at

abbrev stepped : After-step_at-t → StepLeft
stepped c =
    let t = c.step_at-t in
    step_left (goes_or_stops t.result.stop)
    (run (desk t.new.state t.new.stream_memory t.new.message_memory t.new.responses) t.new.reports t.result.count t.result.next)

sizes : (c : After-step_at-t) → SameSizes (present c) (stepped c).after
sizes c =
    let kept = c.step_at-t.auto in
    record { words = kept.state; streams = kept.stream_memory; messages = kept.message_memory; responses = kept.responses; reports = kept.reports }

-- the step stopped, with another number than 0
stopped_there : (c : After-step_at-t) (stop : Stop) → c.step_at-t.result.stop ≡ Some stop → goes_or_stops c.step_at-t.result.stop ≡ 0 → ⊥
stopped_there c stop e z = let none = c.step_at-t.ensures.goes z in cc

-- the number of a reason to stop, as C takes it
as_number : (stop : Stop) → tag_of the_type stop ≡ stop_number stop
as_number why.Refused = refl
as_number why.End = refl
as_number why.Bad = refl
as_number why.Full = refl
as_number why.Delivery = refl

-- ---- the loop

-- the step stopped
pub returns-in-Some : goal.returns-in-Some
returns-in-Some c =
    let at = (goal.at.returns-in-Some c).After-step_at-t in
    let t = c.step_at-t in
    let x = (stepped at).after in
    ap (λ (stop : ℕ). finished (answering stop 0 x.count x.next) x.desk x.reports) (as_number c.in-Some.stop ∙ sym (ap goes_or_stops c.in-Some.is))
    ∙ (stops _ _ _ (present at) (stepped at) t.ensures.leaves (stopped_there at _ c.in-Some.is)
    ∙ c.loop-stop.invariant.same)

-- it goes on, so it had room
pub overflow_sub-left : goal.overflow_sub-left
overflow_sub-left c =
    let at = (goal.at.overflow_sub-left c).After-step_at-t in
    omega (arith, had_room _ _ _ (present at) (stepped at) c.step_at-t.ensures.leaves (ap goes_or_stops c.in_default.is))

pub loop-stop-smaller : goal.loop-stop-smaller
loop-stop-smaller c =
    let at = (goal.at.loop-stop-smaller c).After-step_at-t in
    omega (arith, had_room _ _ _ (present at) (stepped at) c.step_at-t.ensures.leaves (ap goes_or_stops c.in_default.is))

pub loop-stop-preserved : goal.loop-stop-preserved
loop-stop-preserved c =
    let at = (goal.at.loop-stop-preserved c).After-step_at-t in
    let t = c.step_at-t in
    keeps_going _ _ _ _ (present at) _ c.loop-stop.invariant (stepped at) t.ensures.leaves (ap goes_or_stops c.in_default.is) t.ensures.fit (sizes at)

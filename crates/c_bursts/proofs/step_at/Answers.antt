-- `c_bursts::step_at` meets its contract: by what stands at the place.
use Rattle.std.proofs.Common.{◌≡◌, sym, arith, Ok, Some, None}
use Rattle.reading.specs.Desk.{Desk, desk}
use Rattle.log_records.specs.Records.{next_record}
use Rattle.log_records.proofs.Found.{inside}
use Rattle.c_bursts.specs.Bursts.{Run, run}
use Rattle.c_bursts.proofs.Steps.{at-end, at_bad_lem, at_full, at_record}
use Rattle.c_bursts.proofs.step_at.Goals as goal
use Rattle.c_bursts.proofs.step_at.Goals.{In-Ok-Some, Start}

-- ---- the run as it is lent, and what is known behind each question

abbrev lent_to : Start → Run
lent_to s = run (desk s.args.state.now s.args.stream_memory.now s.args.message_memory.now s.args.responses.now) s.args.reports.now s.args.count s.args.at

-- a record
found : (c : In-Ok-Some) → next_record c.args.burst.now c.args.at ≡ Ok (Some c.in-Ok-Some.field-0-0)
found c = sym (rw c.in-Ok-Some.field-0-is at c.in-Ok-Some.ensures)

-- ---- the packet's bytes

pub overflow_add-from : goal.overflow_add-from
overflow_add-from c =
    let i = inside _ _ _ (found (goal.at.overflow_add-from c).In-Ok-Some) in
    omega (arith, i.behind, i.within)

pub slice_bounds-read_packet-end : goal.slice_bounds-read_packet-end
slice_bounds-read_packet-end c =
    let i = inside _ _ _ (found (goal.at.slice_bounds-read_packet-end c).In-Ok-Some) in
    omega (arith, i.behind, i.within)

-- ---- the ways out

-- no room
pub returns-then-room-eq0 : goal.returns-then-room-eq0
returns-then-room-eq0 c =
    let at = goal.at.returns-then-room-eq0 c in
    record { leaves = at_full _ _ _ (lent_to at.Start) _ (found at.In-Ok-Some) c.if-room-eq0.true; goes = λ z. absurd (omega (arith, z)); fit = c.requires.fit }

-- the end
pub returns-in-Ok-None : goal.returns-in-Ok-None
returns-in-Ok-None c =
    let end : next_record c.args.burst.now c.args.at ≡ Ok None = sym (rw c.in-Ok-None.field-0-is at c.in-Ok-None.ensures) in
    record { leaves = at-end _ _ _ (lent_to (goal.at.returns-in-Ok-None c).Start) end; goes = λ z. absurd (omega (arith, z)); fit = c.requires.fit }

-- a bad record
pub returns-in-Err : goal.returns-in-Err
returns-in-Err c =
    record { leaves = at_bad_lem _ _ _ (lent_to (goal.at.returns-in-Err c).Start) _ (sym c.in-Err.ensures); goes = λ z. absurd (omega (arith, z)); fit = c.requires.fit }

-- a packet is read
pub returns-else-room-eq0 : goal.returns-else-room-eq0
returns-else-room-eq0 c =
    let at = goal.at.returns-else-room-eq0 c in
    let t = c.read_packet-answer in
    let after : Desk = desk t.new.state t.new.stream_memory t.new.message_memory t.new.responses in
    record {
      leaves = at_record _ _ _ (lent_to at.Start) _ (found at.In-Ok-Some) _ _ after _ c.if-room-eq0.false t.ensures c.pausing.ensures.number;
      goes = c.pausing.ensures.goes;
      fit = t.ensures.fit;
    }

-- `log_reader::count_records` meets its contract: the reader stands behind `count` records, and the records that are left make the rest of the
-- log's count (`Counted`).
use Rattle.std.proofs.Common.{ap}
use mathlib.Core.Bool.{false≢true}
use Rattle.log_records.specs.declared.Record.{Record}
use Rattle.log_reader.specs.declared.LogReader.{LogReader}
use Rattle.log_reader.proofs.Count.{start, moved, ended}
use Rattle.log_reader.proofs.count_records.Goals as goal

pub loop-count-init : goal.loop-count-init
loop-count-init c =
    record { same = ap (λ (q : LogReader). q.log.now) c.new-reader.ensures; counted = rw (ap (λ (q : LogReader). q.at) c.new-reader.ensures) (start c.args.log.now) }

-- one more record
pub loop-count-smaller : goal.loop-count-smaller
loop-count-smaller c =
    (moved _ _ _ _ c.loop-count.invariant.same c.loop-count.invariant.counted _ (rw c.in-Ok-Some.field-0-is at c.in-Ok-Some.ensures)).2

pub loop-count-preserved : goal.loop-count-preserved
loop-count-preserved c =
    let m = moved _ _ _ _ c.loop-count.invariant.same c.loop-count.invariant.counted _ (rw c.in-Ok-Some.field-0-is at c.in-Ok-Some.ensures) in
    record { same = m.0; counted = m.1 }

-- the end, or where the log is bad
pub returns-in_default : goal.returns-in_default
returns-in_default c =
    ended _ _ _ _ c.loop-count.invariant.same c.loop-count.invariant.counted c.next.result (λ (r : Record) e. absurd (false≢true cc)) c.next.ensures

pub returns-in_default-2 : goal.returns-in_default-2
returns-in_default-2 c =
    ended _ _ _ _ c.loop-count.invariant.same c.loop-count.invariant.counted c.next.result (λ (r : Record) e. absurd (false≢true cc)) c.next.ensures

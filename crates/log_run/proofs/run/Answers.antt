-- `log_run::run` meets its contract: by its loop's invariant, which a record's line keeps, and by what the last line or too little room leaves.
use Rattle.std.proofs.Common.{arith}
use Rattle.reading.specs.Desk.{desk}
use Rattle.log_pieces.proofs.Laws.{of_line, of_last}
use Rattle.log_run.proofs.Running.{begins, turn, ends, stops, refuses, onward_by}
use Rattle.log_run.proofs.run.Goals as goal

-- more records than bytes before the place
pub returns-then-at-count : goal.returns-then-at-count
returns-then-at-count c =
    let p = refuses (desk _ _ _ _) _ _ _ _ c.if-at-count.true in
    record { log_run_promise = p; run_onward = onward_by _ _ _ _ _ _ _ _ p (omega arith) }

pub loop-out-init : goal.loop-out-init
loop-out-init c = begins _ _ _ _ _ c.if-at-count.false

-- a record's line: what was used, the number of records and the place go on
pub overflow_add-used : goal.overflow_add-used
overflow_add-used c =
    let g = c.loop-out.invariant in
    let o = of_line _ _ _ _ _ c.next_line-piece.ensures.onward c.in-Line.is in
    omega (arith, o.0, g.fits, g.same)

pub overflow_add-number : goal.overflow_add-number
overflow_add-number c =
    let o = of_line _ _ _ _ _ c.next_line-piece.ensures.onward c.in-Line.is in
    omega (arith, o.1, o.2, c.loop-out.invariant.few)

pub loop-out-smaller : goal.loop-out-smaller
loop-out-smaller c =
    let o = of_line _ _ _ _ _ c.next_line-piece.ensures.onward c.in-Line.is in
    omega (arith, o.1, o.2)

pub loop-out-preserved : goal.loop-out-preserved
loop-out-preserved c =
    let n = c.next_line-piece in
    turn _ _ _ _ _ _ _ _ _ _ c.loop-out.invariant _ _ _ (desk _ _ _ _) _ c.in-Line.is c.loop-out-test.true n.ensures.onward n.ensures.line_promise

-- the last line
pub overflow_add-result : goal.overflow_add-result
overflow_add-result c =
    let g = c.loop-out.invariant in
    let o = of_last _ _ _ _ c.next_line-piece.ensures.onward c.in-Last.is in
    omega (arith, o, g.fits, g.same)

pub returns-in-Last : goal.returns-in-Last
returns-in-Last c =
    let g = c.loop-out.invariant in
    let n = c.next_line-piece in
    let p = ends _ _ _ _ _ _ _ _ _ _ g _ _ (desk _ _ _ _) _ c.in-Last.is c.loop-out-test.true n.ensures.onward n.ensures.line_promise in
    record {
      log_run_promise = p;
      run_onward = onward_by _ _ _ _ _ _ (desk _ _ _ _) _ p (omega (arith, of_last _ _ _ _ n.ensures.onward c.in-Last.is, g.fits, g.same));
    }

-- no room for one more line
pub returns : goal.returns
returns c =
    let g = c.loop-out.invariant in
    let p = stops _ _ _ _ _ _ _ _ _ _ g c.loop-out-test.false in
    record { log_run_promise = p; run_onward = onward_by _ _ _ _ _ _ _ _ p g.fits }

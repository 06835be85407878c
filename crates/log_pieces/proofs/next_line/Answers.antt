-- `log_pieces::next_line` meets its contract: by what stands at the place.
use Rattle.std.proofs.Common.{◌≡◌, arith, Ok, Some, None, Err}
use Rattle.reading.specs.Desk.{desk}
use Rattle.log_pieces.proofs.Laws.{at-end, at_bad_lem, at_record, packet-size}
use Rattle.log_records.specs.Records.{next_record}
use Rattle.log_records.proofs.Found.{inside}
use Rattle.log_pieces.proofs.next_line.Goals as goal

-- the end
pub returns-in_default-found-clause-line_promise : goal.returns-in_default-found-clause-line_promise
returns-in_default-found-clause-line_promise c =
    let e : next_record c.args.log.now c.args.at ≡ Ok None = cc in
    at-end (desk _ _ _ _) _ _ _ _ _ _ e c.write_end.ensures.0

-- a log that is bad there
pub returns-in_default-clause-line_promise : goal.returns-in_default-clause-line_promise
returns-in_default-clause-line_promise c =
    let e : next_record c.args.log.now c.args.at ≡ Err c.in_default.field-0 = cc in
    at_bad_lem (desk _ _ _ _) _ _ _ _ _ _ _ e c.write_bad.ensures.0

-- a record: its packet lies inside the log
pub slice_bounds-read-count : goal.slice_bounds-read-count
slice_bounds-read-count c =
    let e : next_record c.args.log.now c.args.at ≡ Ok (Some c.in-Some.record) = cc in
    omega (arith, (inside _ _ _ e).behind)

pub slice_bounds-read-start : goal.slice_bounds-read-start
slice_bounds-read-start c =
    let e : next_record c.args.log.now c.args.at ≡ Ok (Some c.in-Some.record) = cc in
    omega (arith, (inside _ _ _ e).behind)

pub slice_bounds-read-end : goal.slice_bounds-read-end
slice_bounds-read-end c =
    let e : next_record c.args.log.now c.args.at ≡ Ok (Some c.in-Some.record) = cc in
    omega (arith, (inside _ _ _ e).within)

-- it is read, and its line put
pub returns-clause-line_promise : goal.returns-clause-line_promise
returns-clause-line_promise c =
    let e : next_record c.args.log.now c.args.at ≡ Ok (Some c.in-Some.record) = cc in
    at_record (desk _ _ _ _) _ _ _ _ _ _ c.read-reading.result _ _ _ _ _ _ e (packet-size _ _ _ e) c.read-reading.ensures c.write_line.ensures.0

pub returns-clause-onward : goal.returns-clause-onward
returns-clause-onward c =
    let e : next_record c.args.log.now c.args.at ≡ Ok (Some c.in-Some.record) = cc in
    let i = inside _ _ _ e in
    (c.write_line.ensures.1, i.onward, i.within)

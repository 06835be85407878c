-- `outside_responses::print_packets` prints what its reader finds in the log, and ends: behind a record less of the log is left.
use Rattle.std.proofs.Common.{ℕ, ◌≡◌, List, sym, ap, ◌∙◌, arith}
use Rattle.std.specs.Prelude.{Ok, Some}
use Rattle.log_records.specs.declared.Record.{Record}
use Rattle.log_records.specs.Records.{Found, next_record}
use Rattle.log_records.proofs.Found.{inside}
use Rattle.log_reader.specs.declared.LogReader.{LogReader}
use Rattle.log_reader.specs.Reader.{place_behind, NextPromise}
use Rattle.outside_responses.proofs.print_packets.Goals as goal

-- what a reader of the log finds is what stands at its place
found : (log : List ℕ) (reader after : LogReader) (x y : Found) → reader.log.now ≡ log → NextPromise reader x after → x ≡ y → next_record log reader.at ≡ y
found log reader after x y same p is = rw same at (sym p.0 ∙ is)

-- and behind a record it stands at the next place
moved : (reader after : LogReader) (x : Found) (r : Record) → NextPromise reader x after → x ≡ Ok (Some r) → after.at ≡ r.next
moved reader after x r p is = ap (λ (q : LogReader). q.at) p.1 ∙ ap (λ (y : Found). place_behind y reader.at) (sym p.0 ∙ is)

pub slice_bounds-print_packet-count : goal.slice_bounds-print_packet-count
slice_bounds-print_packet-count g c =
    let f = inside _ _ _ (found _ _ _ _ _ c.loop-record.invariant c.next.ensures (c.in-Ok-Some.is ∙ ap Ok c.in-Ok-Some.field-0-is)) in
    omega (arith, f.behind)

pub slice_bounds-print_packet-start : goal.slice_bounds-print_packet-start
slice_bounds-print_packet-start g c =
    let f = inside _ _ _ (found _ _ _ _ _ c.loop-record.invariant c.next.ensures (c.in-Ok-Some.is ∙ ap Ok c.in-Ok-Some.field-0-is)) in
    omega (arith, f.behind)

pub slice_bounds-print_packet-end : goal.slice_bounds-print_packet-end
slice_bounds-print_packet-end g c = (inside _ _ _ (found _ _ _ _ _ c.loop-record.invariant c.next.ensures (c.in-Ok-Some.is ∙ ap Ok c.in-Ok-Some.field-0-is))).within

pub loop-record-smaller : goal.loop-record-smaller
loop-record-smaller g c =
    let f = inside _ _ _ (found _ _ _ _ _ c.loop-record.invariant c.next.ensures (c.in-Ok-Some.is ∙ ap Ok c.in-Ok-Some.field-0-is)) in
    let e = moved _ _ _ _ c.next.ensures (c.in-Ok-Some.is ∙ ap Ok c.in-Ok-Some.field-0-is) in
    omega (arith, f.onward, f.within, e)

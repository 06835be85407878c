-- `outside_narrow::print_records` reads the packet of each record, which lies in the log and behind the place.
use Rattle.std.proofs.Common.{sym, ap, ◌∙◌, arith, Ok}
use Rattle.log_records.proofs.Found.{inside}
use Rattle.outside_narrow.proofs.print_records.Goals as goal

pub slice_bounds-print_packet-count : goal.slice_bounds-print_packet-count
slice_bounds-print_packet-count g c = let f = inside _ _ _ (sym c.next_record.ensures ∙ (c.in-Ok-Some.is ∙ ap Ok c.in-Ok-Some.field-0-is)) in omega (arith, f.behind)

pub slice_bounds-print_packet-start : goal.slice_bounds-print_packet-start
slice_bounds-print_packet-start g c = let f = inside _ _ _ (sym c.next_record.ensures ∙ (c.in-Ok-Some.is ∙ ap Ok c.in-Ok-Some.field-0-is)) in omega (arith, f.behind)

pub slice_bounds-print_packet-end : goal.slice_bounds-print_packet-end
slice_bounds-print_packet-end g c = (inside _ _ _ (sym c.next_record.ensures ∙ (c.in-Ok-Some.is ∙ ap Ok c.in-Ok-Some.field-0-is))).within

pub loop-record-smaller : goal.loop-record-smaller
loop-record-smaller g c = let f = inside _ _ _ (sym c.next_record.ensures ∙ (c.in-Ok-Some.is ∙ ap Ok c.in-Ok-Some.field-0-is)) in omega (arith, f.onward, f.within)

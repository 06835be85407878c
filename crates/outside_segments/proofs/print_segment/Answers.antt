-- `outside_segments::print_segment` prints the packet that the writer has put into the output's front: it is no longer than the output.
use native.Mathlib.Omega.{arith}
use lib.ListN.{length-take}
use Rattle.outside_segments.proofs.Fits.{fits}
use Rattle.outside_segments.proofs.print_segment.Goals as goal

pub slice_bounds-print_bytes-end-in-Ok : goal.slice_bounds-print_bytes-end-in-Ok
slice_bounds-print_bytes-end-in-Ok g c =
    omega (arith, fits _ _ _ _ _ _ _ _ c.write_segment.ensures c.in-Ok.is, c.write_segment.auto.out)

pub slice_bounds-print_bytes-end-in-Ok-2 : goal.slice_bounds-print_bytes-end-in-Ok-2
slice_bounds-print_bytes-end-in-Ok-2 g c =
    simp length-take (omega (arith, fits _ _ _ _ _ _ _ _ c.write_segment.ensures c.in-Ok.is, c.write_segment.auto.out))

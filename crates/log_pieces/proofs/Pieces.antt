-- The pieces in a row make the output.
use Prim.Native.Nat.{ℕ, zero, suc, ◌+◌, ◌-◌, ◌≤◌, ◌<◌}
use mathlib.Core.Path.{◌≡◌, refl, ap, ap₂, sym, ◌∙◌}
use mathlib.Core.Bool.{cond}
use mathlib.Core.List.{List, ◌++◌, append_assoc}
use native.Mathlib.Omega.{arith}
use native.Mathlib.Nat.{add-zero}
use lib.ListN.{length, take, drop, length-append, length-drop}
use lib.Seq.{take_at}
use borrow.Author.Tests.{le-ltb}
use Rattle.lists.specs.Bytes.{written}
use Rattle.lists.proofs.Written.{written_front}
use Rattle.reading.specs.Desk.{Desk}
use Rattle.flows.specs.Fresh.{paper_desk}
use Rattle.flows.specs.Deliveries.{read, after}
use Rattle.std.specs.Prelude.{Ok, Err, Some, None}
use Rattle.log_records.specs.Records.{Found, Records, before, by_next, next_record, records_from, records_of}
use Rattle.log_records.proofs.Found.{inside}
use Rattle.log_lines.specs.Lines.{line_of, end_line, bad_log}
use Rattle.log_lines.specs.Puts.{LinePut, line_put, put_line}
use Rattle.log_pieces.specs.Output.{lines_of, output_of, output}
use Rattle.log_pieces.specs.Printing.{printed_by, printed, on_piece, pieces, PiecesMakeOutput}

-- lines written in a buffer's front: its first bytes are the lines, and the room stays
module _ (out lines : List ℕ) where
  pub written_lines : take (length lines) (written out 0 lines) ≡ lines
  written_lines = ap (take (length lines)) (written_front out lines) ∙ take_at lines (drop (length lines) out) (length lines) refl

  pub still-room : 128 ≤ length out → 128 ≤ length (written out 0 lines)
  still-room h = rw (written_front out lines) (simp (length-append, length-drop) (omega arith))

-- a line in a buffer with room
pub put-there : (out line : List ℕ) → 128 ≤ length out → put_line out line ≡ line_put (length line) (written out 0 line)
unfolding put_line
put-there out line room = rw (le-ltb (length out) 128 room)

written_line : (out line : List ℕ) → 128 ≤ length out → take (put_line out line).size (put_line out line).out ≡ line
written_line out line room = ap (λ (x : LinePut). take x.size x.out) (put-there out line room) ∙ written_lines out line

-- one record more
pub one_more : (b : Desk) (count : ℕ) (packet : List ℕ) (r : Records)
    → line_of (read b packet).says (read b packet).dropped ++ output_of (after b packet) (count + 1) r ≡ output_of b count (before packet r)
unfolding output_of
one_more b count packet r =
    let e : count + 1 + length r.packets ≡ count + suc (length r.packets) = omega arith in
    ap (λ (k : ℕ). line_of (read b packet).says (read b packet).dropped ++ (lines_of (after b packet) r.packets ++ cond r.clean (end_line k) bad_log)) e
    ∙ sym (append_assoc (line_of (read b packet).says (read b packet).dropped) (lines_of (after b packet) r.packets) (cond r.clean (end_line (count + suc (length r.packets))) bad_log))

-- from any place on
from_place : (most : ℕ) (b : Desk) (log : List ℕ) (at count : ℕ) (out : List ℕ) → length log - at < most → 128 ≤ length out
    → pieces most b log at count out ≡ output_of b count (records_from most log at)
unfolding pieces records_from printed output_of
from_place zero b log at count out h room = absurd (omega arith)
from_place (suc most) b log at count out h room = go (next_record log at) refl (λ b' next out' h' room'. from_place most b' log next (count + 1) out' h' room')
  where
    go : (x : Found) → next_record log at ≡ x
        → ((b' : Desk) (next : ℕ) (out' : List ℕ) → length log - next < most → 128 ≤ length out'
        → pieces most b' log next (count + 1) out' ≡ output_of b' (count + 1) (records_from most log next))
        → on_piece (λ next. pieces most (printed_by b log count out x).desk log next (count + 1) (printed_by b log count out x).out)
        (printed_by b log count out x).out (printed_by b log count out x).piece
        ≡ output_of b count (by_next log (records_from most log) x)
    go (Ok None) e ih = written_line out (end_line count) room ∙ ap end_line (sym (add-zero count))
    go (Err _) e ih = written_line out bad_log room
    go (Ok (Some r)) e ih =
        let i = inside log at r e in
        let packet : List ℕ = take r.size (drop r.from log) in
        let line : List ℕ = line_of (read b packet).says (read b packet).dropped in
        ap₂ (λ (x y : List ℕ). x ++ y) (written_line out line room)
        (ih (after b packet) r.next (put_line out line).out (omega (arith, i.within, i.onward)) (rw (put-there out line room) (still-room out line room)))
        ∙ one_more b count packet (records_from most log r.next)

-- the whole output of a log that is not too long
pub short_log : (log : List ℕ) → length log ≤ 65536 → output_of paper_desk 0 (records_from (suc (length log)) log 0) ≡ output log
unfolding output records_of
short_log log small = sym (rw (le-ltb 65536 (length log) small))

pub pieces_make_output : PiecesMakeOutput
pieces_make_output log out small room = from_place (suc (length log)) paper_desk log 0 0 out (omega arith) room ∙ short_log log small

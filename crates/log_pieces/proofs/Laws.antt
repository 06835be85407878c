-- The piece at a place, by what stands there.
use Prim.Native.Nat.{ℕ, ◌-◌, ◌≤◌, ◌<◌}
use mathlib.Core.Path.{◌≡◌, ap, sym, subst, ◌∙◌}
use mathlib.Core.List.{List}
use native.Mathlib.Omega.{arith}
use Rattle.log_records.proofs.Found.{inside}
use lib.ListN.{take, drop}
use Rattle.answers.specs.declared.Reading.{Reading}
use Rattle.answers.specs.Answers.{said}
use Rattle.reading.specs.Table.{lent}
use Rattle.reading.specs.Read.{Settled, ReadPromise}
use Rattle.reading.specs.Desk.{Desk, desk}
use Rattle.std.specs.Prelude.{Ok, Err, Some, None}
use Rattle.log_records.specs.declared.Record.{Record}
use Rattle.log_records.specs.declared.BadLog.{BadLog}
use Rattle.log_records.specs.Records.{next_record}
use Rattle.log_lines.specs.Lines.{line_of, end_line, bad_log}
use Rattle.log_lines.specs.Puts.{LinePut, line_put, put_line}
use Rattle.log_pieces.specs.declared.Piece.{Piece}
use Rattle.log_pieces.specs.declared.Piece.TheVariants.{Line, Last}
use Rattle.log_pieces.specs.Printing.{printing, record_printed, printed_by, printed, LinePromise, Onward}

module _ (b : Desk) (log : List ℕ) (at count : ℕ) (out : List ℕ) where
  -- the end, and a log that is bad there
  pub at-end : (r : ℕ) (line : List ℕ) → next_record log at ≡ Ok None → line_put r line ≡ put_line out (end_line count) → LinePromise b log at count out (Last r) b line
  unfolding printed
  at-end r line e p = ap (λ (x : LinePut). printing (Last x.size) b x.out) p ∙ sym (ap (printed_by b log count out) e)

  pub at_bad_lem : (r : ℕ) (line : List ℕ) (e : BadLog) → next_record log at ≡ Err e → line_put r line ≡ put_line out bad_log → LinePromise b log at count out (Last r) b line
  unfolding printed
  at_bad_lem r line bad e p = ap (λ (x : LinePut). printing (Last x.size) b x.out) p ∙ sym (ap (printed_by b log count out) e)

  -- a record
  pub at_record : (f : Record) (packet : List ℕ) (r : Reading _) (words streams messages response : List ℕ) (n : ℕ) (line : List ℕ)
      → next_record log at ≡ Ok (Some f) → packet ≡ take f.size (drop f.from log)
      → ReadPromise (lent b packet) r (desk words streams messages response)
      → line_put n line ≡ put_line out (line_of (said r.answer) r.dropped)
      → LinePromise b log at count out (Line n f.next) (desk words streams messages response) line
  unfolding printed
  at_record f packet r words streams messages response n line e same p q =
      ap (λ (x : LinePut). printing (Line x.size f.next) (desk words streams messages response) x.out) q
      ∙ (ap (λ (x : Settled). printing (Line (put_line out (line_of x.says x.dropped)).size f.next) x.desk (put_line out (line_of x.says x.dropped)).out) p
      ∙ (ap (λ (l : List ℕ). record_printed b l out f.next) same
      ∙ sym (ap (printed_by b log count out) e)))

-- the packet lies between its start and the next place
pub packet-size : (log : List ℕ) (at : ℕ) (f : Record) → next_record log at ≡ Ok (Some f) → take (f.next - f.from) (drop f.from log) ≡ take f.size (drop f.from log)
packet-size log at f e =
    let r = inside log at f e in
    let e : f.next - f.from ≡ f.size = omega (arith, r.behind) in
    ap (λ (k : ℕ). take k (drop f.from log)) e

-- what a piece says of its size and of the next place, by its case
pub of_line : (n at : ℕ) (p : Piece) (size next : ℕ) → Onward n at p → p ≡ Line size next → (size ≤ 128) × (at < next) × (next ≤ n)
of_line n at p size next o e = subst (Onward n at) e o

pub of_last : (n at : ℕ) (p : Piece) (size : ℕ) → Onward n at p → p ≡ Last size → size ≤ 128
of_last n at p size o e = subst (Onward n at) e o

-- The output piece by piece: the line of the record at a place, or the last line.
use Rattle.std.specs.Prelude.{ℕ, zero, suc, ◌+◌, ◌≤◌, ◌<◌, ◌≡◌, List, [], ◌++◌, length, take, drop, Ok, Err, Some, None}
use Rattle.reading.specs.Desk.{Desk}
use Rattle.flows.specs.Fresh.{paper_desk}
use Rattle.flows.specs.Deliveries.{read, after}
use Rattle.log_records.specs.Records.{Found, next_record}
use Rattle.log_lines.specs.Lines.{line_of, end_line, bad_log}
use Rattle.log_lines.specs.Puts.{line_room, put_line}
use Rattle.log_pieces.specs.declared.Piece.{Piece}
use Rattle.log_pieces.specs.declared.Piece.TheVariants.{Line, Last}
use Rattle.log_pieces.specs.Output.{output}

-- ---- what `next_line` answers and leaves

-- the answer, the desk, the line's buffer
pub record Printing : Type 0 where
  pub piece : Piece
  pub desk : Desk
  pub out : List ℕ

abbrev pub printing : Piece → Desk → List ℕ → Printing
printing piece desk out = record { piece = piece; desk = desk; out = out }

-- a record's packet is read, and its line put into the buffer
abbrev pub record_printed : Desk → List ℕ → List ℕ → ℕ → Printing
record_printed b packet out next =
    printing (Line (put_line out (line_of (read b packet).says (read b packet).dropped)).size next) (after b packet) (put_line out (line_of (read b packet).says (read b packet).dropped)).out

abbrev pub last_printed : Desk → List ℕ → List ℕ → Printing
last_printed b out line = printing (Last (put_line out line).size) b (put_line out line).out

-- a clean end prints `end` and the number of records, a bad length or a cut record `bad log`
abbrev pub printed_by : Desk → List ℕ → ℕ → List ℕ → Found → Printing
printed_by b log count out (Ok (Some r)) = record_printed b (take r.size (drop r.from log)) out r.next
printed_by b log count out (Ok None) = last_printed b out (end_line count)
printed_by b log count out (Err _) = last_printed b out bad_log

unfoldable pub printed : Desk → List ℕ → ℕ → ℕ → List ℕ → Printing
printed b log at count out = printed_by b log count out (next_record log at)

abbrev pub LinePromise : Desk → List ℕ → ℕ → ℕ → List ℕ → Piece → Desk → List ℕ → Type 0
LinePromise b log at count out r after line = printing r after line ≡ printed b log at count out

-- a line has room in its buffer; a record's next place is behind it and inside the log
abbrev pub Onward : ℕ → ℕ → Piece → Type 0
Onward n at (Line size next) = (size ≤ line_room) × (at < next) × (next ≤ n)
Onward n at (Last size) = size ≤ line_room

-- ---- calls one after another, each with the desk and the buffer that the one before left, until the last line: what is written on the way

-- a piece's bytes are the buffer's first; behind a record's line the next call goes on
abbrev pub on_piece : (ℕ → List ℕ) → List ℕ → Piece → List ℕ
on_piece behind out (Line size next) = take size out ++ behind next
on_piece behind out (Last size) = take size out

unfoldable pub pieces : ℕ → Desk → List ℕ → ℕ → ℕ → List ℕ → List ℕ
pieces zero b log at count out = []
pieces (suc most) b log at count out =
    on_piece (λ next. pieces most (printed b log at count out).desk log next (count + 1) (printed b log at count out).out)
    (printed b log at count out).out
    (printed b log at count out).piece

-- the pieces make the output, and there are no more than the log has bytes, and one
abbrev pub PiecesMakeOutput : Type 0
PiecesMakeOutput = (log out : List ℕ) → length log ≤ 65536 → line_room ≤ length out → pieces (suc (length log)) paper_desk log 0 0 out ≡ output log

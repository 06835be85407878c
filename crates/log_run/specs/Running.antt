-- A run over a log into a buffer: as many whole lines as have room, from any place on; and the runs one after another.
use Rattle.std.specs.Prelude.{ℕ, zero, suc, ◌+◌, ◌-◌, ◌≤◌, ◌<◌, ◌≡◌, Bool, true, false, cond, List, [], ◌++◌, length, take, drop, ltb, Ok, Err, Some, None}
use Rattle.lists.specs.Bytes.{written}
use Rattle.reading.specs.Desk.{Desk}
use Rattle.flows.specs.Fresh.{paper_desk}
use Rattle.flows.specs.Deliveries.{read, after}
use Rattle.log_records.specs.Records.{Found, next_record}
use Rattle.log_lines.specs.Lines.{line_of, end_line, bad_log}
use Rattle.log_lines.specs.Puts.{line_room}
use Rattle.log_run.specs.declared.Ran.{Ran}
use Rattle.log_pieces.specs.Output.{output}

-- ---- the lines of a run

-- the lines in a row, then the desk, the place and the number of records behind them, and whether the run is over
pub record Running : Type 0 where
  pub lines : List ℕ
  pub desk : Desk
  pub at : ℕ
  pub count : ℕ
  pub over : Bool

abbrev pub running : List ℕ → Desk → ℕ → ℕ → Bool → Running
running lines desk at count over = record { lines = lines; desk = desk; at = at; count = count; over = over }

-- lines before those of a run
abbrev pub lines_before : List ℕ → Running → Running
lines_before lines x = running (lines ++ x.lines) x.desk x.at x.count x.over

-- a record's packet is read and its line put, and the run goes on behind it with the room that is left
abbrev pub record_ran : (Desk → ℕ → ℕ → Running) → Desk → List ℕ → List ℕ → ℕ → ℕ → Running
record_ran onward b packet line next room = lines_before line (onward (after b packet) next (room - length line))

-- the last line is `end` and the number of records at a clean end, `bad log` at a bad length or a cut record
abbrev pub ran_by : (Desk → ℕ → ℕ → Running) → Desk → List ℕ → ℕ → ℕ → ℕ → Found → Running
ran_by onward b log at count room (Ok None) = running (end_line count) b at count true
ran_by onward b log at count room (Err _) = running bad_log b at count true
ran_by onward b log at count room (Ok (Some r)) =
    record_ran onward b (take r.size (drop r.from log)) (line_of (read b (take r.size (drop r.from log))).says (read b (take r.size (drop r.from log))).dropped) r.next room

-- from a place on, with `count` records before it: lines as long as the room left has every line's room, at most `most` of them
unfoldable pub ran_from : ℕ → Desk → List ℕ → ℕ → ℕ → ℕ → Running
ran_from zero b log at count room = running [] b at count false
ran_from (suc most) b log at count room =
    cond (ltb room line_room)
    (running [] b at count false)
    (ran_by (λ b' next room'. ran_from most b' log next (count + 1) room') b log at count room (next_record log at))

-- a record takes a byte at least: no log has more records before a place than bytes, and such a run is over with nothing put
unfoldable pub ran_of : Desk → List ℕ → ℕ → ℕ → ℕ → Running
ran_of b log at count room = cond (ltb at count) (running [] b at count true) (ran_from (suc (length log)) b log at count room)

-- ---- what `run` answers and leaves

-- the answer, the desk, the buffer
pub record RunSettled : Type 0 where
  pub ran : Ran
  pub desk : Desk
  pub out : List ℕ

abbrev pub run_settled : Ran → Desk → List ℕ → RunSettled
run_settled ran desk out = record { ran = ran; desk = desk; out = out }

-- the lines stand in the buffer's front, and the rest of it stays
abbrev pub run_settled_by : List ℕ → Running → RunSettled
run_settled_by out x = run_settled (record { used = length x.lines; at = x.at; count = x.count; over = x.over }) x.desk (written out 0 x.lines)

unfoldable pub log_run : Desk → List ℕ → ℕ → ℕ → List ℕ → RunSettled
log_run b log at count out = run_settled_by out (ran_of b log at count (length out))

abbrev pub LogRunPromise : Desk → List ℕ → ℕ → ℕ → List ℕ → Ran → Desk → List ℕ → Type 0
LogRunPromise b log at count out r after out' = run_settled r after out' ≡ log_run b log at count out

-- the lines have room in the buffer; a run that had room for a line and is not over has come on, and is still inside the log
abbrev pub RunOnward : ℕ → ℕ → ℕ → Ran → Type 0
RunOnward n at room r = (r.used ≤ room) × (line_room ≤ room → r.over ≡ false → (at < r.at) × (r.at ≤ n))

-- ---- runs one after another, each with the desk, the place, the count and the buffer that the one before left, until one is over:
-- what is written on the way

abbrev pub on_run : List ℕ → RunSettled → List ℕ
on_run later x = take x.ran.used x.out ++ cond x.ran.over [] later

unfoldable pub runs : ℕ → Desk → List ℕ → ℕ → ℕ → List ℕ → List ℕ
runs zero b log at count out = []
runs (suc most) b log at count out =
    on_run
    (runs most (log_run b log at count out).desk log (log_run b log at count out).ran.at (log_run b log at count out).ran.count (log_run b log at count out).out)
    (log_run b log at count out)

-- runs into a buffer that has room for a line make the output, and there are no more than the log has bytes, and one
abbrev pub RunsMakeOutput : Type 0
RunsMakeOutput = (log out : List ℕ) → length log ≤ 65536 → line_room ≤ length out → runs (suc (length log)) paper_desk log 0 0 out ≡ output log

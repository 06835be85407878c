-- What the log program prints: a function of the log's bytes (document 01, 'The log program').
use Rattle.std.specs.Prelude.{ℕ, ◌+◌, List, [], ◌∷◌, ◌++◌, cond, length, ltb}
use Rattle.reading.specs.Desk.{Desk}
use Rattle.flows.specs.Fresh.{paper_desk}
use Rattle.flows.specs.Deliveries.{read, after}
use Rattle.log_records.specs.Records.{Records, records_of}
use Rattle.log_lines.specs.Lines.{line_of, end_line, bad_log}

-- one line for each record
abbrev pub lines_of : Desk → List (List ℕ) → List ℕ
lines_of b [] = []
lines_of b (packet ∷ packets) = line_of (read b packet).says (read b packet).dropped ++ lines_of (after b packet) packets

-- the records, with `count` before them: a clean end prints `end` and the number of records, else `bad log`
unfoldable pub output_of : Desk → ℕ → Records → List ℕ
output_of b count r = lines_of b r.packets ++ cond r.clean (end_line (count + length r.packets)) bad_log

-- a log over 65,536 bytes prints `bad log` alone
unfoldable pub output : List ℕ → List ℕ
output log = cond (ltb 65536 (length log)) bad_log (output_of paper_desk 0 (records_of log))

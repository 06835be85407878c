-- What the functions that put text into a lent buffer promise each other, and what the public ones promise.
use Rattle.std.specs.Prelude.{ℕ, ◌+◌, ◌≤◌, ◌≡◌, List, cond, length, ltb}
use Rattle.lists.specs.Bytes.{written}
use Rattle.answers.specs.declared.Reading.{Reading}
use Rattle.answers.specs.Answers.{said_by}
use Rattle.log_lines.specs.declared.Line.{Line}
use Rattle.log_lines.specs.Lines.{line_of, end_line, bad_log}

-- the bytes stand behind what the line had, in the same buffer
pub record Puts (before : Line) (bytes : List ℕ) (after : Line) : Type 0 where
  pub same : after.out.ghost_name ≡ before.out.ghost_name
  pub size : length after.out.now ≡ length before.out.now
  pub stored : after.out.now ≡ written before.out.now before.at bytes
  pub behind : after.at ≡ before.at + length bytes

-- a buffer that has room for every line
abbrev pub line_room : ℕ
line_room = 128

-- what is in a buffer after a line, and how many bytes that has; 0 where the buffer has too little room, and all stays
pub record LinePut : Type 0 where
  pub size : ℕ
  pub out : List ℕ

abbrev pub line_put : ℕ → List ℕ → LinePut
line_put size out = record { size = size; out = out }

unfoldable pub put_line : List ℕ → List ℕ → LinePut
put_line out line = cond (ltb (length out) line_room) (line_put 0 out) (line_put (length line) (written out 0 line))

-- what `write_line`, `write_end` and `write_bad` promise; every line has room in a buffer of 128 bytes
abbrev pub WriteLinePromise : {R : Type 0} → (R → ℕ) → List ℕ → Reading R → ℕ → List ℕ → Type 0
WriteLinePromise number_of out reading r after = (line_put r after ≡ put_line out (line_of (said_by number_of reading.answer) reading.dropped)) × (r ≤ line_room)

abbrev pub WriteEndPromise : List ℕ → ℕ → ℕ → List ℕ → Type 0
WriteEndPromise out count r after = (line_put r after ≡ put_line out (end_line count)) × (r ≤ line_room)

abbrev pub WriteBadPromise : List ℕ → ℕ → List ℕ → Type 0
WriteBadPromise out r after = (line_put r after ≡ put_line out bad_log) × (r ≤ line_room)

-- `log_lines::write_line` meets its contract.
use Rattle.std.proofs.Common.{refl, rules}
use Rattle.answers.specs.Answers.{said_by}
use Rattle.log_lines.specs.Lines.{line_of}
use Rattle.log_lines.proofs.Puts.{no_room}
use Rattle.log_lines.proofs.Lines.{line-is}
use Rattle.log_lines.proofs.write_line.Goals as goal

-- a buffer too short for a line
pub returns-then-out-lt-LINE : goal.returns-then-out-lt-LINE
returns-then-out-lt-LINE g c =
    let reading = c.args.reading in
    no_room (line_of (said_by g.R.Numbered.number_of reading.answer) reading.dropped) c.if-out-lt-LINE.true

-- the line
pub returns : goal.returns
returns g c = line-is _ _ refl c.if-out-lt-LINE.false c.answer.ensures c.dropped.ensures c.text.ensures (search rules)

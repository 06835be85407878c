-- `log_lines::write_end` meets its contract.
use Rattle.std.proofs.Common.{refl, rules}
use Rattle.log_lines.specs.Lines.{end_line}
use Rattle.log_lines.proofs.Puts.{no_room}
use Rattle.log_lines.proofs.Lines.{end_is}
use Rattle.log_lines.proofs.write_end.Goals as goal

-- a buffer too short for a line
pub returns-then-out-lt-LINE : goal.returns-then-out-lt-LINE
returns-then-out-lt-LINE c = no_room (end_line c.args.count) c.if-out-lt-LINE.true

-- the line
pub returns : goal.returns
returns c = end_is _ refl c.if-out-lt-LINE.false c.text.ensures c.spaced.ensures c.text-2.ensures (search rules)

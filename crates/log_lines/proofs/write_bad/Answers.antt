-- `log_lines::write_bad` meets its contract.
use Rattle.std.proofs.Common.{arith, refl, rules}
use Rattle.log_lines.specs.Lines.{bad_log}
use Rattle.log_lines.proofs.Puts.{has_room, no_room}
use Rattle.log_lines.proofs.write_bad.Goals as goal

-- a buffer too short for a line
pub returns-then-out-lt-LINE : goal.returns-then-out-lt-LINE
returns-then-out-lt-LINE c = no_room bad_log c.if-out-lt-LINE.true

-- the line
pub returns : goal.returns
unfolding bad_log
returns c = has_room refl c.if-out-lt-LINE.false (omega (arith, c.text.ensures.behind)) c.text.ensures (search rules)

-- `log_lines::Line::dropped` meets its contract: nothing is put where nothing was dropped.
use Rattle.log_lines.proofs.Digits.{not_dropped}
use Rattle.log_lines.proofs.Line.dropped.Goals as goal

pub returns-else-dropped : goal.returns-else-dropped
returns-else-dropped c = not_dropped c.if-dropped.false

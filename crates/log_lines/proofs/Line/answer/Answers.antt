-- `log_lines::Line::answer` meets its contract: `refused` and a number.
use native.Mathlib.Omega.{arith}
use Rattle.log_lines.proofs.Lines.{refused_is}
use Rattle.log_lines.proofs.Line.answer.Goals as goal

pub returns-in-Err : goal.returns-in-Err
returns-in-Err g c = refused_is g.R.Numbered.number_of c.in-Err.is (omega (arith, c.number.ensures)) c.requires c.text.ensures c.spaced.ensures

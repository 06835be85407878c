-- `log_lines::Line::decimal` ends: the number falls at each call.
use Rattle.log_lines.proofs.Line.+decimal.Given as goal

abbrev pub decreases-decimal : goal.decreases-decimal
decreases-decimal l = l.n

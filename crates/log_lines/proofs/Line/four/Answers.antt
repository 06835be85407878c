-- `log_lines::Line::four` meets its contract: a word and four numbers, each behind the one before.
use Rattle.log_lines.proofs.Lines.{four}
use Rattle.log_lines.proofs.Line.four.Goals as goal

pub returns : goal.returns
returns c =
    four _ _ _ _ c.requires.0 c.requires.1 c.text.ensures c.spaced.ensures c.spaced-2.ensures c.spaced-3.ensures c.spaced-4.ensures

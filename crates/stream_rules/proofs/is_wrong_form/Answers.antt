-- `stream_rules::is_wrong_form` meets its contract: each return follows from the test on the way.
use Rattle.rules.proofs.Segments.{no_data, by_four}
use Rattle.stream_rules.proofs.is_wrong_form.Goals as goal

-- no data
pub returns-then-raw-eq0 : goal.returns-then-raw-eq0
returns-then-raw-eq0 c = no_data _ c.args.flags c.if-raw-eq0.true

-- odd bytes of data, or O
pub returns : goal.returns
returns c = by_four _ c.args.flags c.if-raw-eq0.false

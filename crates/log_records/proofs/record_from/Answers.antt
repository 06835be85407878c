-- `log_records::record_from` meets its contract: the packet is cut, or all there.
use Rattle.std.proofs.Common.{le-ltb, lt-ltb}
use Rattle.log_records.specs.Records.{record_from}
use Rattle.log_records.proofs.record_from.Goals as goal

-- cut
pub returns-then-log-from : goal.returns-then-log-from
unfolding record_from
returns-then-log-from c = simp (lt-ltb _ _ c.if-log-from.true)

-- whole
pub returns : goal.returns
unfolding record_from
returns c = simp (le-ltb _ _ c.if-log-from.false)

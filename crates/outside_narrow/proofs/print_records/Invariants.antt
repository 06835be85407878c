-- `outside_narrow::print_records` ends: each record's next place is behind it.
use Rattle.std.proofs.Common.{length, ◌-◌}
use Rattle.outside_narrow.proofs.print_records.Given as goal

abbrev pub decreases-loop-record : goal.decreases-loop-record
decreases-loop-record g l = length l.log - l.at

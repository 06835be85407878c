-- `log_print::print_log` meets its contract: a log that is too long prints `bad log` alone.
use Rattle.log_print.proofs.Begins.{too_long}
use Rattle.log_print.proofs.print_log.Goals as goal

pub returns-then-log-gt65536 : goal.returns-then-log-gt65536
returns-then-log-gt65536 g c = too_long _ c.if-log-gt65536.true

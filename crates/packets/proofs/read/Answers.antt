-- `packets::read` meets its contract: rows 19 and 12, then the step, which may rely on their having passed.
use Rattle.std.proofs.Common.{sym}
use Rattle.reading.specs.Desk.{desk}
use Rattle.reading.specs.Table.{Lent, lent}
use Rattle.refusals.proofs.Back.{never_0}
use Rattle.reading.proofs.Lent.{lent-ready}
use Rattle.reading.proofs.Laws.{refusal_promised}
use Rattle.reading.proofs.Rows.{refused_lent}
use Rattle.packets.proofs.read.Goals as goal
use Rattle.packets.proofs.read.Goals.{Start}

abbrev lent_to : Start → Lent
lent_to c = lent (desk c.args.state.now c.args.stream_memory.now c.args.message_memory.now c.args.response.now) c.args.packet.now

-- 19 or 12
pub returns-in-Err : goal.returns-in-Err
returns-in-Err c = refusal_promised (lent_to (goal.at.returns-in-Err c).Start) _ _ c.refusal.ensures (refused_lent _ _ c.in-Err.ensures (never_0 _))

pub step-requires : goal.step-requires
step-requires c = lent-ready (lent_to (goal.at.step-requires c).Start).desk (sym c.in_default.ensures)

-- `stream_rules::is_wrong_size` meets its contract: each return follows from the tests on the way.
use Rattle.wire.specs.Packet.{bit}
use Rattle.rules.proofs.Segments.{over, exact, under}
use Rattle.stream_rules.proofs.is_wrong_size.Goals as goal

-- over MTU
pub returns-then-mtu-n : goal.returns-then-mtu-n
returns-then-mtu-n c = over (bit c.args.flags 64) _ _ c.if-mtu-n.true

-- exactly MTU
pub returns-then-n-mtu : goal.returns-then-n-mtu
returns-then-n-mtu c = exact (bit c.args.flags 64) _ _ c.if-n-mtu.true

-- under MTU
pub returns : goal.returns
returns c = under c.args.flags _ _ c.if-mtu-n.false c.if-n-mtu.false

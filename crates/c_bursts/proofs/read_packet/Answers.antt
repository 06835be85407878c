-- `c_bursts::read_packet` meets its contract: what the step leaves, with its report beside it.
use Rattle.std.proofs.Common.{◌<◌, arith, get_or}
use Rattle.wire.specs.Packet.{header}
use Rattle.contexts.specs.State.{ids_in}
use Rattle.reading.specs.Desk.{Desk, desk, state_on}
use Rattle.c_bursts.specs.Bursts.{Run, run}
use Rattle.c_bursts.proofs.Packets.{slot-ready, packet-read}
use Rattle.c_bursts.proofs.read_packet.Goals as goal
use Rattle.c_bursts.proofs.read_packet.Goals.{Start}

-- the run as it is lent
abbrev begun : Start → Run
begun s = run (desk s.args.state.now s.args.stream_memory.now s.args.message_memory.now s.args.responses.now) s.args.reports.now s.args.count 0

pub step-reading-requires : goal.step-reading-requires
step-reading-requires c = slot-ready (begun (goal.at.step-reading-requires c).Start) c.requires

pub returns : goal.returns
returns c =
    let s = begun (goal.at.returns c).Start in
    let t = c.step-reading in
    let at = header (ids_in (state_on s.desk)) in
    let small : get_or c.args.packet.now at 0 < 256 = omega (arith, c.type_inv.packet at) in
    let after : Desk = desk t.new.state t.new.stream_memory t.new.message_memory t.new.response in
    packet-read s c.requires _ small t.result after t.ensures t.auto.stream_memory t.auto.message_memory t.auto.response
    c.from.result _ c.from.ensures c.put.ensures

-- `packets::step` meets its contract: by what the packet's head answers, the step of its type, in the words that it leaves.
use Rattle.std.proofs.Common.{◌≡◌, ℕ, ◌+◌, ◌<◌, ◌∙◌, get_or, arith}
use Rattle.wire.specs.Packet.{header}
use Rattle.reading.specs.Desk.{desk}
use Rattle.contexts.specs.State.{ids_in}
use Rattle.reading.specs.Table.{Lent, lent, state_in}
use Rattle.reading.proofs.Laws.{refusal_promised, stream_promised, message_promised}
use Rattle.packets.proofs.Parting as parting
use Rattle.packets.proofs.step.Goals as goal
use Rattle.packets.proofs.step.Goals.{Start}

abbrev lent_to : Start → Lent
lent_to c = lent (desk c.args.state.now c.args.stream_memory.now c.args.message_memory.now c.args.response.now) c.args.packet.now

-- ---- a packet that is refused

pub returns-in-Err : goal.returns-in-Err
returns-in-Err c =
    let x = lent_to (goal.at.returns-in-Err c).Start in
    refusal_promised x _ _ c.refusal.ensures (parting.reads x c.requires _ (parting.is_refused x c.device.ensures c.narrow.ensures c.in-Err.ensures.number c.in-Err.ensures.row))

-- ---- type 9

pub step-requires : goal.step-requires
step-requires c =
    let x = lent_to (goal.at.step-requires c).Start in
    parting.ready_9 x c.requires (parting.is_9 x c.device.ensures c.narrow.ensures (rw c.in-Ok-DataStreaming.field-0-is at c.in-Ok-DataStreaming.ensures.number))

pub returns-in-Ok-DataStreaming : goal.returns-in-Ok-DataStreaming
returns-in-Ok-DataStreaming c =
    let x = lent_to (goal.at.returns-in-Ok-DataStreaming c).Start in
    let t = c.step in
    stream_promised x t.result t.new.state t.new.memory _ (t.auto.state ∙ c.requires.fit.whole) t.ensures
    (parting.reads x c.requires _ (parting.is_9 x c.device.ensures c.narrow.ensures (rw c.in-Ok-DataStreaming.field-0-is at c.in-Ok-DataStreaming.ensures.number)))

-- ---- type 11

pub step-requires-in-Ok-Message : goal.step-requires-in-Ok-Message
step-requires-in-Ok-Message c =
    let x = lent_to (goal.at.step-requires-in-Ok-Message c).Start in
    let at = header (ids_in (state_in x)) in
    let a : get_or x.packet at 0 < 256 = omega (arith, c.type_inv.packet at) in
    let b : get_or x.packet (at + 1) 0 < 256 = omega (arith, c.type_inv.packet (at + 1)) in
    parting.ready_11 x c.requires (parting.is_11 x c.device.ensures c.narrow.ensures (rw c.in-Ok-Message.field-0-is at c.in-Ok-Message.ensures.number)) a b

pub returns-in-Ok-Message : goal.returns-in-Ok-Message
returns-in-Ok-Message c =
    let x = lent_to (goal.at.returns-in-Ok-Message c).Start in
    let t = c.step-in-Ok-Message in
    message_promised x t.result t.new.state t.new.memory t.new.response _ (t.auto.state ∙ c.requires.fit.whole) t.ensures
    (parting.reads x c.requires _ (parting.is_11 x c.device.ensures c.narrow.ensures (rw c.in-Ok-Message.field-0-is at c.in-Ok-Message.ensures.number)))

-- `message_step::take_alone` meets its contract: the lowest free context, or none is free.
use Rattle.std.proofs.Common.{refl, ap, ◌∙◌, arith}
use Rattle.contexts.specs.Words.{state_of}
use Rattle.messages.specs.Joining.{delivered_at_once}
use Rattle.messages.proofs.Laws.{alone-none, alone_taken, taking}
use Rattle.message_step.proofs.take_alone.Goals as goal

-- 25: none is free
pub returns-in_default : goal.returns-in_default
returns-in_default c =
    let t = c.refuse.ensures in
    let pre = c.requires.sound in
    (alone-none _ _ _ _ _ pre.0.rows pre.1 (rw (← c.in_default.ensures.0) (omega arith)) t.0, t.1, t.2)

-- delivered at once
pub returns : goal.returns
returns c =
    let free = c.in-Some.ensures in
    let s = c.requires in
    let st = state_of c.args.state.now in
    let mem = c.args.memory.now in
    let rep = c.args.response.now in
    let p = c.args.packet.now in
    let m = c.args.m in (
      taking st mem rep p m _ _ _ _ _ c.mailbox_of.ensures c.close_message.ensures s.message_ready.inside c.store.ensures c.done-written.ensures.1
          ∙ (ap (delivered_at_once st mem rep p m) free.0 ∙ alone_taken st mem rep p m s.sound.0.rows s.sound.1 (rw (← free.0) free.1)),
      refl,
      c.done-written.ensures.0,
    )

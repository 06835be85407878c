-- `message_rooms::place` meets its contract: the store ends inside the room, and a mark that was not set leaves room for it.
use Rattle.std.proofs.Common.{ℕ, ◌+◌, ◌<◌, ◌≤◌, ◌^◌, sym, subst, arith}
use Rattle.sizes.proofs.Laws.{bytes_le}
use Rattle.marks.proofs.Marks.{room_for_mark}
use Rattle.contexts.specs.Words.{state_of}
use Rattle.rules.proofs.Laws.{last_with_le}
use Rattle.message_rooms.proofs.Laws.{placing}
use Rattle.message_rooms.proofs.place.Goals as goal

-- the marks with this segment's: none stands past msglen
pub keep-requires-clause-marks_bound : goal.keep-requires-clause-marks_bound
keep-requires-clause-marks_bound c =
    let m = c.args.m in
    let s = c.requires in
    let fits = s.message_fits in
    let ready = s.message_ready in
    let last : c.last_with-last_with_this.result ≤ 256 =
    rw c.last_with-last_with_this.ensures (last_with_le m _ fits.short (omega (arith, s.sound.fits, bytes_le m.ssize))) in
    let within : c.args.marks + 2 ^ m.msgseg < 2 ^ (m.msglen + 1) =
    room_for_mark _ m.msgseg (m.msglen + 1) fits.inside (omega (arith, s.sound.past fits.several)) fits.unmarked in
    let with_this : c.with_mark-with_this.result < 2 ^ (m.msglen + 1) =
    subst (λ (n : ℕ). n < 2 ^ (m.msglen + 1)) (sym c.with_mark-with_this.ensures) within in
    (with_this, last, ready.segments, ready.number, ready.boxes)

pub returns : goal.returns
returns c = (
  placing (state_of c.args.state.now) _ _ _ c.args.m _ c.args.marks c.args.last c.bytes_of-size.result _ _ _ _ _ _
      c.bytes_of-size.ensures
      c.with_mark-with_this.ensures
      c.last_with-last_with_this.ensures
      c.keep.ensures.0
      c.requires.message_ready.inside
      c.store.ensures
      c.done-written.ensures.1,
  c.keep.ensures.1,
  rw (← c.done-written.ensures.0) c.keep.ensures.2,
)

-- What message_rules leaves for those above to rely on. No promise of a public call speaks of it.
use Rattle.std.specs.Prelude.{◌≤◌, ◌≡◌, false}
use Rattle.wire.specs.declared.MessageSegment.{MessageSegment}
use Rattle.wire.specs.Type11.{is_single}
use Rattle.sizes.specs.Sizes.{bytes_of}
use Rattle.rules.specs.Messages.{judged}

-- rows 20 to 22 passed
pub record Sound (m : MessageSegment) : Type 0 where
  pub rows : judged m ≡ 0
  pub fits : m.raw ≤ bytes_of m.ssize
  pub past : is_single m ≡ false → m.msgseg ≤ m.msglen

-- What is known of a packet that was parsed: where its data lie, and how large its fields can be.
use Prim.Native.Nat.{ℕ, ◌≤◌, ◌<◌, ◌+◌, ◌-◌, ◌/◌, ◌%◌}
use mathlib.Core.Path.{◌≡◌, ap, sym, ◌∙◌, subst}
use mathlib.Core.List.{List}
use mathlib.Core.Bool.{◌||◌}
use native.Mathlib.Omega.{arith}
use lib.ListN.{length, get_or}
use Rattle.lists.proofs.Tests.{by_test, neither}
use Rattle.wire.specs.Segment.{Segment}
use Rattle.wire.specs.declared.MessageSegment.{MessageSegment}
use Rattle.wire.specs.Parsed.{Stream, Message}
use Rattle.wire.specs.declared.Setup.{Setup}
use Rattle.wire.specs.Packet.{header, ids_of}
use Rattle.wire.specs.Type9.{is_s, is_e, segment_at, segment_of}
use Rattle.wire.specs.Type11.{message_of}
use Rattle.wire.specs.Parsed.{parsed}
use Rattle.wire.proofs.HeadLaws.{with_field, without_field, whole_head, whole_field, stream_passed, message_passed}

-- a type 9 packet's data end with it
abbrev pub Lies : (ids : ℕ) → List ℕ → Segment → Type 0
Lies ids p g = (g ≡ segment_of ids p) × (g.from + g.raw ≡ length p)

lies : (ids : ℕ) (p : List ℕ) (g : Segment) (from field : ℕ) → g ≡ segment_of ids p → segment_of ids p ≡ segment_at ids p from field → from ≤ length p → Lies ids p g
unfolding segment_at
lies ids p g from field same form h = (same, subst (λ (y : Segment). y.from + y.raw ≡ length p) (sym (same ∙ form)) (omega arith))

-- a type 11 packet's too
abbrev pub Says : (ids : ℕ) → List ℕ → MessageSegment → Type 0
Says ids p m = (m ≡ message_of ids p) × (header ids + 2 ≤ length p)

module _ (p : List ℕ) (setup : Setup) where
  abbrev ids : ℕ
  ids = ids_of setup

  pub stream_parsed : (g : Segment) → parsed setup p ≡ Stream g → Lies ids p g
  stream_parsed g e =
      let k = stream_passed p setup g e in
      by_test (is_s ids p || is_e ids p)
      (λ f. lies ids p g (header ids + 4) _ k.2 (with_field ids p f) (whole_field ids p setup.device k.0 k.1 f))
      (λ f. let a = neither (is_s ids p) (is_e ids p) f in lies ids p g (header ids + 2) 0 k.2 (without_field ids p a.0 a.1) (whole_head ids p setup.device k.0))

  pub message_parsed : (m : MessageSegment) → parsed setup p ≡ Message m → Says ids p m
  message_parsed m e =
      let k = message_passed p setup m e in
      (k.2, whole_head ids p setup.device k.0)

-- its fields, where the packet's items are bytes
pub message_small : (ids : ℕ) (p : List ℕ) (m : MessageSegment) → Says ids p m → get_or p (header ids) 0 < 256 → get_or p (header ids + 1) 0 < 256
    → (header ids + 2 + m.raw ≡ length p) × (m.msglen < 16) × (m.msgseg < 16) × (m.mbox < 4)
unfolding message_of
message_small ids p m s a b =
    let raw : m.raw ≡ length p - (header ids + 2) = ap (λ (y : MessageSegment). y.raw) s.0 in
    let msglen : m.msglen ≡ get_or p (header ids) 0 / 16 = ap (λ (y : MessageSegment). y.msglen) s.0 in
    let msgseg : m.msgseg ≡ get_or p (header ids + 1) 0 % 16 = ap (λ (y : MessageSegment). y.msgseg) s.0 in
    let mbox : m.mbox ≡ get_or p (header ids + 1) 0 / 16 % 4 = ap (λ (y : MessageSegment). y.mbox) s.0 in
    (omega (arith, raw, s.1), omega (arith, msglen), omega (arith, msgseg), omega (arith, mbox))

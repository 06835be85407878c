-- Laws of the head: which of the two forms a type 9 packet has, and what is known of a packet that its rows let pass.
use Prim.Native.Nat.{ℕ, ◌+◌, ◌≤◌, ◌<◌}
use mathlib.Core.Path.{◌≡◌, refl, sym, ◌∙◌}
use mathlib.Core.List.{List}
use mathlib.Core.Bool.{true, false, ◌||◌, and-false}
use native.Mathlib.Omega.{arith}
use lib.ListN.{length}
use borrow.Author.Tests.{eqb-true, eq-eqb, ne_eqb, ltb-false, le-ltb, lt-ltb}
use Rattle.lists.specs.Bytes.{word}
use Rattle.lists.proofs.Tests.{by_test, not-second, the_other}
use Rattle.tables.specs.Refusals.{Row, Verdict, refuse, accept, verdict, none}
use Rattle.tables.proofs.Exactly.{accepted, none-held}
use Rattle.wire.specs.declared.Setup.{Setup}
use Rattle.wire.specs.Segment.{Segment}
use Rattle.wire.specs.declared.MessageSegment.{MessageSegment}
use Rattle.wire.specs.Packet.{header, tt, tt_of, ids_of, packet_type, destination}
use Rattle.wire.specs.Type9.{is_s, is_e, xh, segment_at, segment_of}
use Rattle.wire.specs.Type11.{message_of}
use Rattle.wire.specs.Head.{under, is9, is11, head_rows}
use Rattle.wire.specs.Parsed.{Stream, Message, parsed_by, parsed}
use Rattle.wire.specs.Inside.{headed, headed_behind}

-- a type 9 packet is no type 11 packet
pub one_type : (p : List ℕ) → is9 p ≡ true → is11 p ≡ false
one_type p n =
    let nine : packet_type p ≡ 9 = eqb-true (packet_type p) 9 n in
    ne_eqb (packet_type p) 11 (λ e. omega arith)

module _ (ids : ℕ) (p : List ℕ) where
  -- ---- the two forms
  pub with_field : (is_s ids p || is_e ids p) ≡ true → segment_of ids p ≡ segment_at ids p (header ids + 4) (word p (header ids + 2))
  unfolding segment_of
  with_field h = rw h

  pub without_field : is_s ids p ≡ false → is_e ids p ≡ false → segment_of ids p ≡ segment_at ids p (header ids + 2) 0
  unfolding segment_of
  without_field s e = rw (s, e)

  -- ---- rows that have passed
  pub behind_3 : (device : ℕ) → header ids ≤ length p → tt p ≡ tt_of ids → destination ids p ≡ device → headed_behind 3 ids p ≡ headed device ids p
  unfolding headed_behind headed head_rows verdict
  behind_3 device long wide ours = rw (le-ltb (length p) (header ids) long, eq-eqb (tt p) (tt_of ids) wide, eq-eqb (destination ids p) device ours)

  pub behind_5 : is9 p ≡ true → header ids + 2 ≤ length p → headed_behind 5 ids p ≡ headed_behind 3 ids p
  unfolding headed_behind head_rows verdict
  behind_5 nine long = rw (nine, le-ltb (length p) (header ids + 2) long)

  -- ---- a type 9 packet by its rows 5 and 1
  module _ (nine : is9 p ≡ true) where
    is_9 : 9 ≡ packet_type p
    is_9 = sym (eqb-true (packet_type p) 9 nine)

    pub extended : xh ids p ≡ true → 5 ≡ headed_behind 5 ids p
    unfolding headed_behind head_rows verdict
    extended h = rw (nine, h)

    module _ (h : xh ids p ≡ false) where
      pub no_field : is_s ids p ≡ false → is_e ids p ≡ false → 9 ≡ headed_behind 5 ids p
      unfolding headed_behind head_rows verdict
      no_field s e = is_9 ∙ rw (nine, h, s, e)

      pub field_cut : (is_s ids p || is_e ids p) ≡ true → length p < header ids + 4 → 1 ≡ headed_behind 5 ids p
      unfolding headed_behind head_rows verdict
      field_cut f short = rw (nine, h, f, lt-ltb (length p) (header ids + 4) short)

      -- long enough for a field, whether it has one or not
      pub long-enough : header ids + 4 ≤ length p → 9 ≡ headed_behind 5 ids p
      unfolding headed_behind head_rows verdict
      long-enough long = is_9 ∙ rw (nine, h, le-ltb (length p) (header ids + 4) long, and-false (is_s ids p || is_e ids p))

  module _ (device : ℕ) where
    -- a packet that is not of type 9 is of type 11
    pub other_type : none (head_rows device ids p) → is9 p ≡ false → is11 p ≡ true
    unfolding none head_rows
    other_type n t = the_other (is9 p) (is11 p) n.1.1.1.0 t

    -- it has 7 bytes; with a field, 9
    pub whole_head : none (head_rows device ids p) → header ids + 2 ≤ length p
    unfolding none head_rows
    whole_head n = ltb-false (length p) (header ids + 2) n.1.1.1.1.0

    pub whole_field : none (head_rows device ids p) → is9 p ≡ true → (is_s ids p || is_e ids p) ≡ true → header ids + 4 ≤ length p
    unfolding none head_rows
    whole_field n t f =
        let tested = not-second (is9 p) _ t n.1.1.1.1.1.1.0 in
        ltb-false (length p) (header ids + 4) (not-second (is_s ids p || is_e ids p) (under (header ids + 4) p) f tested)

module _ (p : List ℕ) (setup : Setup) where
  abbrev rows_of : List Row
  rows_of = head_rows setup.device (ids_of setup) p

  -- ---- a packet that no row of its head refuses
  pub is_stream : none rows_of → is9 p ≡ true → parsed setup p ≡ Stream (segment_of (ids_of setup) p)
  unfolding parsed
  is_stream n t = rw (accepted rows_of n, t)

  pub is_message_lem : none rows_of → is9 p ≡ false → parsed setup p ≡ Message (message_of (ids_of setup) p)
  unfolding parsed
  is_message_lem n t = rw (accepted rows_of n, t)

  -- ---- and back: what is no refusal has passed
  pub stream_passed : (g : Segment) → parsed setup p ≡ Stream g → none rows_of × (is9 p ≡ true) × (g ≡ segment_of (ids_of setup) p)
  unfolding parsed
  stream_passed g e = go (verdict rows_of) refl e
    where
      go : (v : Verdict) → verdict rows_of ≡ v → parsed_by (ids_of setup) p v ≡ Stream g → none rows_of × (is9 p ≡ true) × (g ≡ segment_of (ids_of setup) p)
      go (refuse number leaves) r e = absurd (let z : ◌≡◌ {A = ℕ} 0 1 = cc in omega arith)
      go accept r e =
          let fields : is9 p ≡ true → Stream (segment_of (ids_of setup) p) ≡ Stream g = λ t. rw t at e in
          by_test (is9 p)
          (λ t. let same = fields t in (none-held rows_of r, t, cc))
          (λ t. absurd (let other : Message (message_of (ids_of setup) p) ≡ Stream g = rw t at e in let z : ◌≡◌ {A = ℕ} 0 1 = cc in omega arith))

  pub message_passed : (m : MessageSegment) → parsed setup p ≡ Message m → none rows_of × (is9 p ≡ false) × (m ≡ message_of (ids_of setup) p)
  unfolding parsed
  message_passed m e = go (verdict rows_of) refl e
    where
      go : (v : Verdict) → verdict rows_of ≡ v → parsed_by (ids_of setup) p v ≡ Message m → none rows_of × (is9 p ≡ false) × (m ≡ message_of (ids_of setup) p)
      go (refuse number leaves) r e = absurd (let z : ◌≡◌ {A = ℕ} 0 1 = cc in omega arith)
      go accept r e =
          by_test (is9 p)
          (λ t. absurd (let other : Stream (segment_of (ids_of setup) p) ≡ Message m = rw t at e in let z : ◌≡◌ {A = ℕ} 0 1 = cc in omega arith))
          (λ t. let same : Message (message_of (ids_of setup) p) ≡ Message m = rw t at e in (none-held rows_of r, t, cc))

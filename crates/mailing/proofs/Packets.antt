-- A message's packet is read as its segment.
use Prim.Native.Nat.{ℕ, zero, suc, ◌+◌, ◌-◌, ◌*◌, ◌/◌, ◌%◌, ◌^◌, ◌≤◌, ◌<◌}
use mathlib.Core.Path.{◌≡◌, refl, ap, ◌∙◌}
use mathlib.Core.List.{List, [], ◌∷◌, ◌++◌}
use mathlib.Core.Bool.{Bool, true, false, cond, not, ◌||◌, ◌&&◌}
use native.Mathlib.Nat.{mod-lt}
use native.Mathlib.Omega.{arith}
use native.Mathlib.Decide.{ℕ_discrete}
use lib.ListN.{length, take, drop}
use lib.Dec.{eqb, ltb}
use borrow.Author.Tests.{eq-eqb, ne_eqb, le-ltb, le-leb}
use Rattle.lists.specs.Bytes.{byte, in_bytes, AreBytes}
use Rattle.wire.specs.declared.Setup.{Setup}
use Rattle.wire.specs.Packet.{packet_type, destination, source, tt as tt_in, tt_of, header, ids_of, first_byte_of, addressed}
use Rattle.wire.specs.declared.MessageSegment.{MessageSegment}
use Rattle.wire.specs.Parsed.{Message}
use Rattle.wire.specs.Type11.{mailbox, message_data_from, message_of}
use Rattle.tables.specs.Refusals.{verdict}
use Rattle.wire.specs.Head.{head_rows}
use Rattle.wire.specs.Parsed.{parsed}
use Rattle.wire.proofs.Addressed.{length-addressed, first_of, drop-addressed, byte-addressed, byte-behind, destination-addressed, source-addressed}
use Rattle.wire.proofs.Widths.{some_byte, two_bytes}
use Rattle.sizes.specs.Sizes.{in_eights}
use Rattle.rules.proofs.Laws.{judged-fine}
use Rattle.message_rooms.specs.Placing.{message_data}
use Rattle.rules.specs.Messages.{judged, reserved_size, bad_length, past_last}
use Rattle.lists.proofs.Tests.{by_test}
use Rattle.mailing.specs.Mail.{Posted, priority_at, segment_size, msglen_of, data_at, is_alone, mbox_of, last_field, mail_packet, Postable, mail_segment, MailSegmentsReadBack}
use Rattle.mailing.proofs.Sizes.{Sized, sized, length_full, length_last}

-- ---- Numbers

-- byte 0 of priority q
record FirstByte (ids q b : ℕ) : Type 0 where
  of_tt : b / 16 % 4 ≡ tt_of ids
  of_type : b % 16 ≡ 11
  of_priority : b / 64 ≡ q
  is_byte : b < 256

first_byte : (ids q : ℕ) → 1 ≤ ids → ids ≤ 2 → q ≤ 3 → FirstByte ids q (first_byte_of ids q 11)
first_byte ids q least most h = omega arith

-- two fields of four bits
record Halves (a c b : ℕ) : Type 0 where
  upper : b / 16 ≡ a
  lower : b % 16 ≡ c
  is_byte : b < 256

halves : (a c : ℕ) → a ≤ 15 → c < 16 → Halves a c (a * 16 + c)
halves a c h l = omega arith

-- two fields of two bits and one of four
record Names (a m c b : ℕ) : Type 0 where
  letter : b / 64 ≡ a
  mbox : b / 16 % 4 ≡ m
  field : b % 16 ≡ c
  is_byte : b < 256

names : (a m c : ℕ) → a < 4 → m < 4 → c < 16 → Names a m c (a * 64 + m * 16 + c)
names a m c h l k = omega arith

-- ---- Bytes

no_bytes : AreBytes []
no_bytes i = omega arith

bytes_cons : (b : ℕ) (bs : List ℕ) → b < 256 → AreBytes bs → AreBytes (b ∷ bs)
bytes_cons b bs h t zero = h
bytes_cons b bs h t (suc i) = t i

bytes_take : (n : ℕ) (l : List ℕ) → AreBytes l → AreBytes (take n l)
bytes_take zero l h = no_bytes
bytes_take (suc n) [] h = no_bytes
bytes_take (suc n) (b ∷ bs) h = bytes_cons b (take n bs) (h 0) (bytes_take n bs (λ i. h (suc i)))

bytes_drop : (n : ℕ) (l : List ℕ) → AreBytes l → AreBytes (drop n l)
bytes_drop zero l h = h
bytes_drop (suc n) [] h = no_bytes
bytes_drop (suc n) (b ∷ bs) h = bytes_drop n bs (λ i. h (suc i))

-- behind a number in its bytes
bytes_behind : (n v : ℕ) (l : List ℕ) → AreBytes l → AreBytes (in_bytes n v ++ l)
unfolding in_bytes
bytes_behind zero v l h = h
bytes_behind (suc n) v l h = bytes_cons (v / 256 ^ n % 256) (in_bytes n v ++ l) (mod-lt (v / 256 ^ n) (omega arith)) (bytes_behind n v l h)

bytes_addressed : (ids first to by : ℕ) (rest : List ℕ) → first < 256 → AreBytes rest → AreBytes (addressed ids first to by rest)
unfolding addressed
bytes_addressed ids first to by rest f h =
    bytes_cons first (in_bytes ids to ++ (in_bytes ids by ++ rest)) f (bytes_behind ids to (in_bytes ids by ++ rest) (bytes_behind ids by rest h))

-- ---- The packet

-- two segments are equal by their fields
by_fields : (s s' l l' m m' n n' z z' k k' r r' : ℕ) → s ≡ s' → l ≡ l' → m ≡ m' → n ≡ n' → z ≡ z' → k ≡ k' → r ≡ r'
    → ◌≡◌ {A = MessageSegment}
    (record { source = s; letter = l; mbox = m; msglen = n; ssize = z; msgseg = k; raw = r })
    (record { source = s'; letter = l'; mbox = m'; msglen = n'; ssize = z'; msgseg = k'; raw = r' })
by_fields s s' l l' m m' n n' z z' k k' r r' a b d e f g h = rw (a, b, d, e, f, g, h)

module _ (setup : Setup) (x : Posted) (k : ℕ) (p : Postable setup x) (below : k ≤ msglen_of x) where
  z : Sized x
  z = sized setup x p

  abbrev ids : ℕ
  ids = ids_of setup

  abbrev packet : List ℕ
  packet = mail_packet setup x k

  -- its byte 0, and what stands behind the IDs
  abbrev byte0 : ℕ
  byte0 = first_byte_of ids (priority_at x k) 11

  abbrev sizes_byte : ℕ
  sizes_byte = msglen_of x * 16 + x.ssize

  abbrev name_byte : ℕ
  name_byte = x.mail.letter * 64 + mbox_of x * 16 + last_field x k

  abbrev rest : List ℕ
  rest = sizes_byte ∷ name_byte ∷ data_at x k

  -- the last field has four bits
  field_fits : last_field x k < 16
  field_fits =
      by_test (is_alone x)
      (λ t. let h = rw t at p.mailbox in rw t (omega arith))
      (λ t. rw t (omega (arith, z.most)))

  first : FirstByte ids (priority_at x k) byte0
  first = first_byte ids (priority_at x k) (some_byte setup.narrow) (two_bytes setup.narrow) (p.priorities k)

  sizes : Halves (msglen_of x) x.ssize sizes_byte
  sizes = halves (msglen_of x) x.ssize z.most z.code

  name : Names x.mail.letter (mbox_of x) (last_field x k) name_byte
  name = names x.mail.letter (mbox_of x) (last_field x k) p.letter (omega arith) field_fits

  -- where they stand
  size_is : length packet ≡ message_data_from ids + length (data_at x k)
  unfolding mail_packet
  size_is = length-addressed ids byte0 setup.device x.mail.source rest ∙ omega arith

  at_0 : byte packet 0 ≡ byte0
  unfolding mail_packet
  at_0 = first_of ids byte0 setup.device x.mail.source rest

  at-sizes : byte packet (header ids) ≡ sizes_byte
  unfolding mail_packet
  at-sizes = byte-behind ids byte0 setup.device x.mail.source rest

  at_name : byte packet (header ids + 1) ≡ name_byte
  unfolding mail_packet
  at_name = byte-addressed ids byte0 setup.device x.mail.source rest 1

  source_is : source ids packet ≡ x.mail.source
  unfolding mail_packet
  source_is = source-addressed ids byte0 setup.device x.mail.source rest p.source

  destination_is : destination ids packet ≡ setup.device
  unfolding mail_packet
  destination_is = destination-addressed ids byte0 setup.device x.mail.source rest p.device_ID

  data_is : message_data ids packet ≡ data_at x k
  unfolding mail_packet
  data_is = drop-addressed ids byte0 setup.device x.mail.source rest 2

  is_message_lem : message_of ids packet ≡ mail_segment x k
  unfolding message_of
  is_message_lem =
      by_fields _ _ _ _ _ _ _ _ _ _ _ _ _ _ source_is
      (ap (λ (b : ℕ). b / 64) at_name ∙ name.letter)
      (ap (λ (b : ℕ). b / 16 % 4) at_name ∙ name.mbox)
      (ap (λ (b : ℕ). b / 16) at-sizes ∙ sizes.upper)
      (ap (λ (b : ℕ). b % 16) at-sizes ∙ sizes.lower)
      (ap (λ (b : ℕ). b % 16) at_name ∙ name.field)
      (omega (arith, size_is))

  type_is : packet_type packet ≡ 11
  type_is = ap (λ (b : ℕ). b % 16) at_0 ∙ first.of_type

  is_parsed : parsed setup packet ≡ Message (mail_segment x k)
  unfolding parsed verdict head_rows
  is_parsed =
      rw (
        le-ltb (length packet) (header ids) (omega (arith, size_is)),
        eq-eqb (tt_in packet) (tt_of ids) (ap (λ (b : ℕ). b / 16 % 4) at_0 ∙ first.of_tt),
        eq-eqb (destination ids packet) setup.device destination_is,
        ne_eqb (packet_type packet) 9 (λ e. omega (arith, type_is)),
        eq-eqb (packet_type packet) 11 type_is,
        le-ltb (length packet) (header ids + 2) (omega (arith, size_is)),
      ) (rw (ne_eqb (packet_type packet) 9 (λ e. omega (arith, type_is))) (ap Message is_message_lem))

  -- rows 20 to 22
  last_or_full : cond (eqb (msglen_of x) 0 || eqb (last_field x k) (msglen_of x)) (not (in_eights (length (data_at x k)) (segment_size x))) (not (eqb (length (data_at x k)) (segment_size x))) ≡ false
  unfolding in_eights
  last_or_full = go (ℕ_discrete k (msglen_of x)) (ℕ_discrete (msglen_of x) 0)
    where
      in_eights_lem : k ≡ msglen_of x → in_eights (length (data_at x k)) (segment_size x) ≡ true
      in_eights_lem e =
          let size : length (data_at x k) ≡ length x.mail.bytes - msglen_of x * segment_size x = ap (λ (i : ℕ). length (data_at x i)) e ∙ length_last x z in
          rw (
            le-leb 8 (length (data_at x k)) (omega (arith, size, z.begins)),
            le-leb (length (data_at x k)) (segment_size x) (omega (arith, size, z.ends)),
            eq-eqb (length (data_at x k) % 8) 0 (ap (λ (n : ℕ). n % 8) size ∙ z.last_eights),
          )

      go : Dec (k ≡ msglen_of x) → Dec (msglen_of x ≡ 0)
          → cond (eqb (msglen_of x) 0 || eqb (last_field x k) (msglen_of x)) (not (in_eights (length (data_at x k)) (segment_size x))) (not (eqb (length (data_at x k)) (segment_size x))) ≡ false
      go (yes e) (yes o) = rw (eq-eqb (msglen_of x) 0 o, in_eights_lem e)
      go (yes e) (no o) = rw (ne_eqb (msglen_of x) 0 o, eq-eqb k (msglen_of x) e, in_eights_lem e)
      go (no e) (yes o) = absurd (e (omega arith))
      go (no e) (no o) = rw (ne_eqb (msglen_of x) 0 o, ne_eqb k (msglen_of x) e, eq-eqb (length (data_at x k)) (segment_size x) (length_full x z k (omega arith)))

  passes : judged (mail_segment x k) ≡ 0
  unfolding reserved_size bad_length past_last
  passes = judged-fine (mail_segment x k) (ne_eqb (segment_size x) 0 (λ e. omega (arith, z.some))) last_or_full (go (is_alone x))
    where
      go : (b : Bool) → (not b && ltb (msglen_of x) (cond b (x.mail.mailbox / 4) k)) ≡ false
      go true = refl
      go false = rw (le-ltb (msglen_of x) k below)

  is_mailbox : mailbox (mail_segment x k) ≡ x.mail.mailbox
  is_mailbox =
      by_test (is_alone x)
      (λ t. rw t (omega arith))
      (λ t. let h = rw t at p.mailbox in rw t (omega arith))

  all_bytes : AreBytes packet
  unfolding mail_packet data_at
  all_bytes =
      bytes_addressed ids byte0 setup.device x.mail.source rest first.is_byte
      (bytes_cons sizes_byte (name_byte ∷ data_at x k) sizes.is_byte (bytes_cons name_byte (data_at x k) name.is_byte
      (bytes_take (segment_size x) (drop (k * segment_size x) x.mail.bytes) (bytes_drop (k * segment_size x) x.mail.bytes p.bytes))))

pub mail_read : MailSegmentsReadBack
mail_read setup x k p below = record {
  read = is_parsed setup x k p below;
  priority = ap (λ (b : ℕ). b / 64) (at_0 setup x k p below) ∙ (first setup x k p below).of_priority;
  well-formed = passes setup x k p below;
  mailbox_is = is_mailbox setup x k p below;
  data_are = data_is setup x k p below;
  are_bytes = all_bytes setup x k p below;
}

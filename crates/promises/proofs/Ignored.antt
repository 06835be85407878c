-- Reserved bits and the pad are ignored. First of packets: two that differ only there are parsed alike and have the same data.
-- Then of reading, which looks at a packet by these two only.
use Prim.Native.Nat.{ℕ, zero, suc, ◌+◌, ◌-◌, ◌*◌, ◌/◌, ◌%◌, ◌^◌, ◌≤◌, ◌<◌}
use mathlib.Core.Path.{◌≡◌, refl, ap, ap₂, sym, ◌∙◌}
use mathlib.Core.List.{List}
use mathlib.Core.Bool.{Bool, true, false, not, ◌||◌, ◌&&◌, false≢true}
use native.Mathlib.Omega.{arith}
use lib.ListN.{length, drop, length-take, length-drop, get_or-eq_default}
use lib.Seq.{ext_get_or, get_or-take, get_or-drop}
use lib.Dec.{eqb, ltb}
use borrow.Author.Tests.{ltb-true, ltb-false, eqb-true, eqb-false, ne_eqb}
use Rattle.lists.specs.Bytes.{byte, word, number}
use Rattle.wire.specs.Segment.{Segment}
use Rattle.wire.specs.Parsed.{Parsed}
use Rattle.wire.specs.Parsed.{Refused, Stream}
use Rattle.wire.specs.declared.Setup.{Setup}
use Rattle.wire.specs.Packet.{packet_type, id_bytes, ids_of, header, bit}
use Rattle.wire.proofs.Fields.{from_least, raw_is, pad_is}
use Rattle.wire.specs.Type9.{flags, is_s, is_e, xh, is_o, is_p, segment_at, segment_of}
use Rattle.tables.specs.Refusals.{Row, Verdict, refuse, accept, verdict, none}
use Rattle.tables.proofs.Exactly.{none-held}
use Rattle.wire.specs.Head.{head_rows}
use Rattle.wire.specs.Parsed.{parsed_by, parsed}
use Rattle.sizes.specs.Sizes.{data_length}
use Rattle.contexts.specs.State.{State, ids_in}
use Rattle.stream_rooms.specs.Placing.{data_of, placed}
use Rattle.streams.specs.Joining.{accepted, stepped}
use Rattle.reading.specs.Desk.{Desk, state_on}
use Rattle.reading.specs.Table.{lent, is_state_words, wrong_sizes, lent_rows, lent_refusal}
use Rattle.reading.specs.Read.{of_stream, reading}
use Rattle.reading.proofs.Lent.{lent-passed, lent-ready}
use Rattle.reading.proofs.Rows.{by_parsed, refused_lent, by_packet}
use Rattle.lists.proofs.Tests.{by_test, neither}
use Rattle.flows.specs.Widths.{narrowed}
use Rattle.promises.specs.Ignored.{is_pad, has_ignored, DifferInIgnored, ReservedAndPadIgnored, plain_packet, strange_packet, IgnoredNotEmpty}

-- ---- Of packets

record IsPad (ids : ℕ) (p : List ℕ) (i : ℕ) : Type 0 where
  set : is_p ids p ≡ true
  some : (segment_of ids p).from < length p
  last : i + 1 ≡ length p

is_pad_lem : (ids : ℕ) (p : List ℕ) (i : ℕ) → is_pad ids p i ≡ true → IsPad ids p i
unfolding is_pad
is_pad_lem ids p i e = go (is_p ids p) (ltb (segment_of ids p).from (length p)) (eqb (i + 1) (length p)) refl refl refl e
  where
    go : (a b c : Bool) → is_p ids p ≡ a → ltb (segment_of ids p).from (length p) ≡ b → eqb (i + 1) (length p) ≡ c → (a && (b && c)) ≡ true → IsPad ids p i
    go false b c s t u e = absurd (false≢true e)
    go true false c s t u e = absurd (false≢true e)
    go true true false s t u e = absurd (false≢true e)
    go true true true s t u e = record { set = s; some = ltb-true (segment_of ids p).from (length p) t; last = eqb-true (i + 1) (length p) u }

-- the pad is none of the bytes before the data
before_data : (ids : ℕ) (p : List ℕ) (i : ℕ) → i < (segment_of ids p).from → is_pad ids p i ≡ false
before_data ids p i h = by_test (is_pad ids p i) (λ t. let pad = is_pad_lem ids p i t in absurd (omega arith)) (λ t. t)

-- and none of the data
in_data : (ids : ℕ) (p : List ℕ) (i : ℕ) → i < data_length (segment_of ids p) → is_pad ids p ((segment_of ids p).from + i) ≡ false
unfolding data_length
in_data ids p i h = by_test (is_pad ids p ((segment_of ids p).from + i)) not_the_last (λ t. t)
  where
    not_the_last : is_pad ids p ((segment_of ids p).from + i) ≡ true → is_pad ids p ((segment_of ids p).from + i) ≡ false
    not_the_last t =
        let pad = is_pad_lem ids p ((segment_of ids p).from + i) t in
        let one_less : data_length (segment_of ids p) ≡ (segment_of ids p).raw - 1 = rw (pad_is ids p, pad.set) in
        absurd (omega (arith, raw_is ids p))

module _ (setup : Setup) (p q : List ℕ) (d : DifferInIgnored (ids_of setup) p q) where
  abbrev ids : ℕ
  ids = ids_of setup

  -- a byte that is neither; past the end both are 0
  other : (i : ℕ) → (i ≡ header ids + 1 → ⊥) → is_pad ids p i ≡ false → byte p i ≡ byte q i
  unfolding has_ignored
  other i h pad =
      by_test (ltb i (length p))
      (λ t. d.others i (ltb-true i (length p) t) (simp (ne_eqb i (header ids + 1) h, pad) (go (eqb (packet_type p) 9))))
      (λ t. let past : length p ≤ i = ltb-false i (length p) t in
      get_or-eq_default p 0 past ∙ sym (get_or-eq_default q 0 (omega (arith, d.size))))
    where
      go : (b : Bool) → (b && false) ≡ false
      go true = refl
      go false = refl

  -- a byte of the head, the one with S and E aside
  head : (i : ℕ) → i < header ids + 1 → byte p i ≡ byte q i
  head i h = other i (λ e. omega arith) (before_data ids p i (omega (arith, from_least ids p)))

  -- and a number of the head
  same_number : (n at : ℕ) → at + n ≤ header ids → number n p at ≡ number n q at
  unfolding number
  same_number zero at h = refl
  same_number (suc n) at h = ap₂ (λ (a b : ℕ). a * 256 ^ n + b) (head at (omega arith)) (same_number n (at + 1) (omega arith))

  -- the bits that are read
  same_bit : (weight : ℕ) → flags ids p / weight % 2 ≡ flags ids q / weight % 2 → bit (flags ids p) weight ≡ bit (flags ids q) weight
  same_bit weight e = ap (λ (n : ℕ). eqb n 1) e

  first_two : (is_s ids p ≡ is_s ids q) × (is_e ids p ≡ is_e ids q)
  first_two =
      let h = d.S-E in
      (same_bit 128 (omega arith), same_bit 64 (omega arith))

  last_three : (xh ids p ≡ xh ids q) × (is_o ids p ≡ is_o ids q) × (is_p ids p ≡ is_p ids q)
  last_three =
      let h = d.xh_O_P in
      (same_bit 4 (omega arith), same_bit 2 (omega arith), same_bit 1 (omega arith))

  -- the fields are read alike
  same_at : (from field field' : ℕ) → field ≡ field' → segment_at ids p from field ≡ segment_at ids q from field'
  unfolding segment_at
  same_at from field field' e = cc (first_two.0, first_two.1, last_three.1, last_three.2, d.size, same_number ids (1 + ids) (omega arith), head 0 (omega arith), head (header ids) (omega arith))

  fielded : (is_s ids p || is_e ids p) ≡ (is_s ids q || is_e ids q)
  fielded = cc (first_two.0, first_two.1)

  -- the field of a packet with S or E is no pad either
  same_field : (is_s ids p || is_e ids p) ≡ true → word p (header ids + 2) ≡ word q (header ids + 2)
  unfolding segment_of segment_at
  same_field b =
      let from : (segment_of ids p).from ≡ header ids + 4 = rw b in
      let at : ℕ = header ids + 2 in
      let first : byte p at ≡ byte q at = other at (λ e. omega arith) (before_data ids p at (omega arith)) in
      let second : byte p (at + 1) ≡ byte q (at + 1) = other (at + 1) (λ e. omega arith) (before_data ids p (at + 1) (omega arith)) in
      cc

  pub same-segment : segment_of ids p ≡ segment_of ids q
  unfolding segment_of
  same-segment =
      by_test (is_s ids p || is_e ids p)
      (λ b. rw (← fielded, b) (same_at (header ids + 4) _ _ (same_field b)))
      (λ b. rw (← fielded, b) (same_at (header ids + 2) 0 0 refl))

  same_head : head_rows setup.device ids p ≡ head_rows setup.device ids q
  unfolding head_rows
  same_head = cc (first_two.0, first_two.1, last_three.0, d.size, head 0 (omega arith), same_number ids 1 (omega arith))

  pub same-parsed : packet_type p ≡ 9 → parsed setup p ≡ parsed setup q
  unfolding parsed
  same-parsed nine = go (verdict (head_rows setup.device ids p)) ∙ ap (λ (rows : List Row). parsed_by ids q (verdict rows)) same_head
    where
      nine_too : packet_type q ≡ 9
      nine_too = ap (λ (n : ℕ). n % 16) (sym (head 0 (omega arith))) ∙ nine

      go : (v : Verdict) → parsed_by ids p v ≡ parsed_by ids q v
      go (refuse number leaves) = refl
      go accept = rw (nine, nine_too) (ap Stream same-segment)

  -- and the data are the same, the pad left out
  pub same_data : data_of p (segment_of ids p) ≡ data_of q (segment_of ids p)
  same_data = ext_get_or 0 (data_of p (segment_of ids p)) (data_of q (segment_of ids p)) (simp (length-take, length-drop, d.size)) at
    where
      at : (i : ℕ) → i < length (data_of p (segment_of ids p)) → byte (data_of p (segment_of ids p)) i ≡ byte (data_of q (segment_of ids p)) i
      at i h =
          let less : i < data_length (segment_of ids p) = omega (arith, length-take (data_length (segment_of ids p)) (drop (segment_of ids p).from p)) in
          rw (get_or-take, get_or-drop, get_or-take, get_or-drop) (other ((segment_of ids p).from + i) (λ e. omega (arith, from_least ids p)) (in_data ids p i less))

  -- a packet of another type has nothing that is ignored
  pub same-packet : eqb (packet_type p) 9 ≡ false → p ≡ q
  unfolding has_ignored
  same-packet other_type = ext_get_or 0 p q d.size (λ i h. d.others i h (rw other_type))

-- a type 9 packet is refused or read as its segment
nine_parsed : (P : Parsed → Type 0) (setup : Setup) (p : List ℕ) → packet_type p ≡ 9 → ((n : ℕ) → P (Refused n)) → P (Stream (segment_of (ids_of setup) p)) → P (parsed setup p)
unfolding parsed
nine_parsed P setup p nine refused stream = go (verdict (head_rows setup.device (ids_of setup) p))
  where
    go : (v : Verdict) → P (parsed_by (ids_of setup) p v)
    go (refuse number leaves) = refused number
    go accept = rw nine stream

-- ---- Of reading

-- a step takes from a type 9 packet only its data
same_step : (s : State) (memory p q : List ℕ) (g : Segment) → data_of p g ≡ data_of q g → stepped s memory p g ≡ stepped s memory q g
unfolding stepped accepted placed
same_step s memory p q g e = rw e

module _ (d : Desk) (p q : List ℕ) (differ : DifferInIgnored (ids_in (state_on d)) p q) where
  by_packet_alike : packet_type p ≡ 9 → by_parsed (lent d p) (parsed (state_on d).setup p) ≡ by_parsed (lent d q) (parsed (state_on d).setup q)
  by_packet_alike nine =
      nine_parsed (λ (r : Parsed). by_parsed (lent d p) r ≡ by_parsed (lent d q) r) (state_on d).setup p nine (λ n. refl)
      (ap (of_stream (lent d q)) (same_step (state_on d) d.stream_memory p q (segment_of (ids_in (state_on d)) p) (same_data (state_on d).setup p q differ)))
      ∙ ap (by_parsed (lent d q)) (same-parsed (state_on d).setup p q differ nine)

  sized : lent_refusal d ≡ 0 → wrong_sizes d ≡ false
  unfolding lent_rows none
  sized z = (neither (not (is_state_words d)) (wrong_sizes d) (none-held (lent_rows d) (lent-passed d z)).1.0).1

  -- rows 19 and 12 do not look at the packet
  alike : packet_type p ≡ 9 → reading (lent d p) ≡ reading (lent d q)
  alike nine =
      by_test (eqb (lent_refusal d) 0)
      (λ t. let z = eqb-true (lent_refusal d) 0 t in
      let fit = (lent-ready d z).fit in
      by_packet (lent d p) fit.whole fit.good (sized z) ∙ (by_packet_alike nine ∙ sym (by_packet (lent d q) fit.whole fit.good (sized z))))
      (λ t. let n = eqb-false (lent_refusal d) 0 t in sym (refused_lent (lent d p) (lent_refusal d) refl n) ∙ refused_lent (lent d q) (lent_refusal d) refl n)

pub reserved_and_pad_ignored : ReservedAndPadIgnored
reserved_and_pad_ignored d p q differ =
    by_test (eqb (packet_type p) 9)
    (λ t. alike d p q differ (eqb-true (packet_type p) 9 t))
    (λ t. ap (λ (r : List ℕ). reading (lent d r)) (same-packet (state_on d).setup p q differ t))

-- ---- There are such packets

-- a test that holds below n
below : (n : ℕ) → (ℕ → Bool) → Bool
below zero test = true
below (suc n) test = test n && below n test

each_below : (n : ℕ) (test : ℕ → Bool) → below n test ≡ true → (i : ℕ) → i < n → test i ≡ true
unfolding below
each_below zero test h i less = absurd (omega arith)
each_below (suc n) test h i less = go (test n) refl h (each_below n test)
  where
    go : (b : Bool) → test n ≡ b → (b && below n test) ≡ true → (below n test ≡ true → (i : ℕ) → i < n → test i ≡ true) → test i ≡ true
    go false t h ih = absurd (false≢true h)
    go true t h ih = by_test (eqb i n) (λ e. ap test (eqb-true i n e) ∙ t) (λ e. let other = eqb-false i n e in ih h i (omega arith))

-- two packets that agree wherever nothing is ignored, by a test of each place
agree : (ids : ℕ) (p q : List ℕ) → ℕ → Bool
agree ids p q i = has_ignored ids p i || eqb (byte p i) (byte q i)

all_agree : (ids : ℕ) (p q : List ℕ) → below (length p) (agree ids p q) ≡ true → (i : ℕ) → i < length p → has_ignored ids p i ≡ false → byte p i ≡ byte q i
unfolding agree
all_agree ids p q all i h e = eqb-true (byte p i) (byte q i) (rw e at (each_below (length p) (agree ids p q) all i h))

pub ignored_not_empty : IgnoredNotEmpty
unfolding below agree has_ignored is_pad segment_of segment_at id_bytes narrowed
ignored_not_empty = (
  record {
    alike = record { size = refl; others = all_agree 2 plain_packet strange_packet refl; S-E = refl; xh_O_P = refl };
    other_bits = λ e. omega arith;
    other_pad = λ e. omega arith;
  },
  (
    record {
      alike = record { size = refl; others = all_agree 1 (narrowed plain_packet) (narrowed strange_packet) refl; S-E = refl; xh_O_P = refl };
      other_bits = λ e. omega arith;
      other_pad = λ e. omega arith;
    },
    tt,
  ),
)

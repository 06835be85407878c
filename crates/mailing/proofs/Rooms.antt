-- The segments of a message in its room: each lies in its own part, and all of them together are the message.
use Prim.Native.Nat.{ℕ, zero, suc, ◌+◌, ◌*◌, ◌≤◌, ◌<◌}
use mathlib.Core.Path.{◌≡◌, ap, ap₂, sym, ◌∙◌}
use mathlib.Core.List.{List, ◌++◌}
use mathlib.Core.Bool.{true, false}
use native.Mathlib.Omega.{arith}
use native.Mathlib.Nat.{mul-le-mul_right, suc-mul, zero-mul}
use native.Mathlib.Decide.{ℕ_discrete, dec_lt}
use lib.ListN.{length, take, drop}
use lib.Seq.{take_all, take-add, drop-drop, drop_at, length-take-le}
use Rattle.lists.specs.Bytes.{written}
use Rattle.lists.proofs.Written.{length-written, take-before, drop-behind, part-written}
use Rattle.marks.specs.Marks.{marked, with_mark}
use Rattle.marks.proofs.Bits.{mark_other}
use Rattle.mailing.specs.Mail.{Posted, segment_size, msglen_of, data_at}
use Rattle.mailing.proofs.Sizes.{Sized, length_full, length_last, length-le}

-- ---- A part of a memory

-- a part, by what ends with it
part_is : (b n : ℕ) (l : List ℕ) → b ≤ length l → take n (drop b l) ≡ drop b (take (b + n) l)
part_is b n l h = sym (ap (drop b) (take-add b n l) ∙ drop_at (take b l) (take n (drop b l)) b (length-take-le b l h))

-- a part before or behind what is written stays
module _ (memory bytes : List ℕ) (at : ℕ) (fits : at + length bytes ≤ length memory) where
  pub before_stays : (b n : ℕ) → b + n ≤ at → take n (drop b (written memory at bytes)) ≡ take n (drop b memory)
  before_stays b n h =
      part_is b n (written memory at bytes) (omega (arith, length-written memory bytes at fits))
      ∙ (ap (drop b) (take-before memory bytes at fits (b + n) h) ∙ sym (part_is b n memory (omega arith)))

  pub behind_stays : (b n : ℕ) → at + length bytes ≤ b → take n (drop b (written memory at bytes)) ≡ take n (drop b memory)
  behind_stays b n h = ap (take n) (drop-behind memory bytes at fits b h)

-- ---- The segments of a message

-- from `from` on, each segment that is marked lies in its part
abbrev pub Filled : Posted → List ℕ → (from marks : ℕ) → Type 0
Filled x memory from marks = (j : ℕ) → j ≤ msglen_of x → marked marks j ≡ true → take (length (data_at x j)) (drop (from + j * segment_size x) memory) ≡ data_at x j

module _ (x : Posted) (z : Sized x) where
  -- segment j ends before segment k begins
  before_next : (j k : ℕ) → j < k → j * segment_size x + length (data_at x j) ≤ k * segment_size x
  before_next j k h = omega (arith, length-le x z j, suc-mul j (segment_size x), mul-le-mul_right {m = suc j} {n = k} (segment_size x) h)

  -- a segment ends with the message at the latest
  pub inside : (k : ℕ) → k ≤ msglen_of x → k * segment_size x + length (data_at x k) ≤ length x.mail.bytes
  inside k h = go (ℕ_discrete k (msglen_of x))
    where
      go : Dec (k ≡ msglen_of x) → k * segment_size x + length (data_at x k) ≤ length x.mail.bytes
      go (yes e) = rw e (omega (arith, length_last x z, z.begins))
      go (no e) = omega (arith, before_next k (msglen_of x) (omega arith), z.begins)

  -- and a message fits its room
  pub fits-room : length x.mail.bytes ≤ 4096
  fits-room = omega (arith, z.ends, z.small, mul-le-mul_right {m = msglen_of x} {n = 15} (segment_size x) z.most)

  -- one more segment in its part
  module _ (memory : List ℕ) (from marks k : ℕ) (whole : from + 4096 ≤ length memory) (below : k ≤ msglen_of x) (unset : marked marks k ≡ false) (filled : Filled x memory from marks) where
    stored : from + k * segment_size x + length (data_at x k) ≤ length memory
    stored = omega (arith, inside k below, fits-room)

    pub filled_next : Filled x (written memory (from + k * segment_size x) (data_at x k)) from (with_mark marks k)
    filled_next j h set = go (ℕ_discrete j k) (dec_lt j k)
      where
        go : Dec (j ≡ k) → Dec (j < k)
            → take (length (data_at x j)) (drop (from + j * segment_size x) (written memory (from + k * segment_size x) (data_at x k))) ≡ data_at x j
        go (yes e) l = rw e (part-written memory (data_at x k) (from + k * segment_size x) stored)
        go (no e) (yes l) =
            before_stays memory (data_at x k) (from + k * segment_size x) stored (from + j * segment_size x) (length (data_at x j)) (omega (arith, before_next j k l))
            ∙ filled j h (sym (mark_other marks k unset j e) ∙ set)
        go (no e) (no l) =
            behind_stays memory (data_at x k) (from + k * segment_size x) stored (from + j * segment_size x) (length (data_at x j)) (omega (arith, before_next k j (omega arith)))
            ∙ filled j h (sym (mark_other marks k unset j e) ∙ set)

  -- all segments are the message
  module _ (memory : List ℕ) (from marks : ℕ) (all : (j : ℕ) → j ≤ msglen_of x → marked marks j ≡ true) (filled : Filled x memory from marks) where
    front : (c : ℕ) → c ≤ msglen_of x → take (c * segment_size x) (drop from memory) ≡ take (c * segment_size x) x.mail.bytes
    unfolding data_at
    front zero h = rw (zero-mul (segment_size x))
    front (suc c) h =
        let full : length (data_at x c) ≡ segment_size x = length_full x z c (omega arith) in
        let here : take (segment_size x) (drop (from + c * segment_size x) memory) ≡ data_at x c =
        ap (λ (n : ℕ). take n (drop (from + c * segment_size x) memory)) (sym full) ∙ filled c (omega arith) (all c (omega arith)) in
        rw (suc-mul c (segment_size x), take-add (c * segment_size x) (segment_size x) (drop from memory), take-add (c * segment_size x) (segment_size x) x.mail.bytes, drop-drop)
        (ap₂ (λ (a b : List ℕ). a ++ b) (front c (omega arith)) here)

    pub all_filled : take (length x.mail.bytes) (drop from memory) ≡ x.mail.bytes
    unfolding data_at
    all_filled =
        let last : ℕ = msglen_of x in
        let rest : ℕ = length (data_at x last) in
        let L : length x.mail.bytes ≡ last * segment_size x + rest = omega (arith, length_last x z, z.begins) in
        let here : take rest (drop (last * segment_size x) (drop from memory)) ≡ data_at x last = rw drop-drop (filled last (omega arith) (all last (omega arith))) in
        ap (λ (n : ℕ). take n (drop from memory)) L
        ∙ (take-add (last * segment_size x) rest (drop from memory)
        ∙ (ap₂ (λ (a b : List ℕ). a ++ b) (front last (omega arith)) here
        ∙ (sym (take-add (last * segment_size x) (segment_size x) x.mail.bytes) ∙ take_all (last * segment_size x + segment_size x) x.mail.bytes z.ends)))

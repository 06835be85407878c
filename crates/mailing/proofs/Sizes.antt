-- How the bytes of a message lie in its segments: full ones of ssize bytes, and a last one of 8 to ssize in eights.
use Prim.Native.Nat.{ℕ, suc, ◌+◌, ◌-◌, ◌*◌, ◌/◌, ◌%◌, ◌≤◌, ◌<◌}
use mathlib.Core.Path.{◌≡◌, refl, ap}
use mathlib.Core.List.{List, [], ◌∷◌}
use mathlib.Core.Bool.{true, ◌&&◌}
use native.Mathlib.Omega.{arith}
use native.Mathlib.Nat.{div-add-mod', mod-lt, div-lt_iff_lt-mul, mul-le-mul_right, suc-mul}
use native.Mathlib.Decide.{dec_lt}
use lib.ListN.{length, get_or, length-take, length-drop}
use lib.Dec.{eqb, leb}
use borrow.Author.Tests.{leb-true, eqb-true}
use Rattle.lists.specs.Each.{Each}
use Rattle.lists.proofs.Tests.{both}
use Rattle.wire.specs.declared.Setup.{Setup}
use Rattle.sizes.specs.Sizes.{ssizes, bytes_of, in_eights}
use Rattle.sizes.proofs.Laws.{bytes_le, reserved}
use Rattle.mailing.specs.Mail.{Posted, segment_size, msglen_of, data_at, Postable}

-- what holds of each number of a list, and of 0, holds of the i-th
each_at : (P : ℕ → Type 0) (l : List ℕ) (i : ℕ) → P 0 → Each P l → P (get_or l i 0)
each_at P [] i z e = z
each_at P (x ∷ l) ℕ.zero z e = e.0
each_at P (x ∷ l) (suc i) z e = each_at P l i z e.1

-- every ssize is in eights
whole-eights : (code : ℕ) → bytes_of code % 8 ≡ 0
unfolding bytes_of
whole-eights code = each_at (λ n. n % 8 ≡ 0) ssizes code refl (omega arith)

-- a code that is not reserved has four bits
four-bits : (code : ℕ) → 0 < bytes_of code → code < 16
four-bits code h = go (dec_lt code 16)
  where
    go : Dec (code < 16) → code < 16
    go (yes l) = l
    go (no l) = let z : bytes_of code ≡ 0 = reserved code (λ a b. omega arith) in absurd (omega arith)

eights : (n size : ℕ) → in_eights n size ≡ true → (8 ≤ n) × (n ≤ size) × (n % 8 ≡ 0)
unfolding in_eights
eights n size e =
    let a = both (leb 8 n) (leb n size && eqb (n % 8) 0) e in
    let b = both (leb n size) (eqb (n % 8) 0) a.1 in
    (leb-true 8 n a.0, leb-true n size b.0, eqb-true (n % 8) 0 b.1)

-- the sizes of a message that can be sent
pub record Sized (x : Posted) : Type 0 where
  pub some : 0 < segment_size x
  pub small : segment_size x ≤ 256
  pub code : x.ssize < 16
  pub most : msglen_of x ≤ 15
  -- the last segment begins inside, holds at least 8, and ends with the message
  pub begins : msglen_of x * segment_size x + 8 ≤ length x.mail.bytes
  pub ends : length x.mail.bytes ≤ msglen_of x * segment_size x + segment_size x
  pub last_eights : (length x.mail.bytes - msglen_of x * segment_size x) % 8 ≡ 0

pub sized : (setup : Setup) (x : Posted) → Postable setup x → Sized x
unfolding msglen_of
sized setup x p =
    let size : ℕ = segment_size x in
    let L : ℕ = length x.mail.bytes in
    let e = eights L (16 * size) p.size in
    let pos : 0 < size = omega (arith, e) in
    let last : ℕ = (L - 1) / size in
    let q : ℕ = size / 8 in
    let eighths : size ≡ 8 * q = omega (arith, whole-eights x.ssize) in
    let split : last * size + (L - 1) % size ≡ L - 1 = div-add-mod' (L - 1) size in
    let rest : (L - 1) % size < size = mod-lt (L - 1) pos in
    let scaled : last * size ≡ last * (8 * q) = ap (λ (n : ℕ). last * n) eighths in
    record {
      some = pos;
      small = bytes_le x.ssize;
      code = four-bits x.ssize pos;
      most = let few : last < 16 = (div-lt_iff_lt-mul pos).1 (omega (arith, e)) in omega arith;
      begins = omega (arith, e, split, scaled);
      ends = omega (arith, split, rest);
      last_eights = omega (arith, e, split, scaled);
    }

-- a segment before the last holds ssize bytes, the last what is left
module _ (x : Posted) (z : Sized x) where
  pub length_full : (k : ℕ) → k < msglen_of x → length (data_at x k) ≡ segment_size x
  unfolding data_at
  length_full k h = simp (length-take, length-drop) (omega (arith, z.begins, suc-mul k (segment_size x), mul-le-mul_right {m = suc k} {n = msglen_of x} (segment_size x) h))

  pub length_last : length (data_at x (msglen_of x)) ≡ length x.mail.bytes - msglen_of x * segment_size x
  unfolding data_at
  length_last = simp (length-take, length-drop) (omega (arith, z.begins, z.ends))

  pub length-le : (k : ℕ) → length (data_at x k) ≤ segment_size x
  unfolding data_at
  length-le k = simp (length-take, length-drop) (omega arith)

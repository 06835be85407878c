-- A run of bytes written into one room: what that room then holds, and that every other room stays.
use Prim.Native.Nat.{ℕ, suc, ◌+◌, ◌*◌, ◌≤◌, ◌<◌}
use native.Mathlib.Omega.{arith}
use native.Mathlib.Nat.{mul-le-mul_right, suc-mul}
use native.Mathlib.Decide.{dec_lt}
use mathlib.Core.Path.{◌≡◌, refl, ap, ap₂, sym, ◌∙◌}
use mathlib.Core.List.{List, ◌++◌}
use lib.ListN.{length, take, drop, length-take, length-drop}
use lib.Seq.{take-add, drop-drop, drop_at, length-take-le}
use Rattle.lists.specs.Bytes.{written}
use Rattle.lists.proofs.Written.{length-written, take-before, drop-behind, part-written}
use Rattle.flows.specs.Deliveries.{in_room}

-- a part, by what ends with it
part_is : (b n : ℕ) (l : List ℕ) → b ≤ length l → take n (drop b l) ≡ drop b (take (b + n) l)
part_is b n l h = sym (ap (drop b) (take-add b n l) ∙ drop_at (take b l) (take n (drop b l)) b (length-take-le b l h))

-- bytes written inside a memory
module _ (memory bytes : List ℕ) (at : ℕ) (fits : at + length bytes ≤ length memory) where
  before_stays : (b n : ℕ) → b + n ≤ at → take n (drop b (written memory at bytes)) ≡ take n (drop b memory)
  before_stays b n h =
      part_is b n (written memory at bytes) (omega (arith, length-written memory bytes at fits))
      ∙ (ap (drop b) (take-before memory bytes at fits (b + n) h) ∙ sym (part_is b n memory (omega arith)))

  behind_stays : (b n : ℕ) → at + length bytes ≤ b → take n (drop b (written memory at bytes)) ≡ take n (drop b memory)
  behind_stays b n h = ap (take n) (drop-behind memory bytes at fits b h)

  -- the n bytes before the place, then the bytes
  then_bytes : (b n : ℕ) → b + n ≡ at → take (n + length bytes) (drop b (written memory at bytes)) ≡ take n (drop b memory) ++ bytes
  then_bytes b n e =
      take-add n (length bytes) (drop b (written memory at bytes))
      ∙ ap₂ (λ (x y : List ℕ). x ++ y) (before_stays b n (omega arith))
      (ap (take (length bytes)) (drop-drop n b (written memory at bytes) ∙ ap (λ (k : ℕ). drop k (written memory at bytes)) e) ∙ part-written memory bytes at fits)

-- a room lies inside the memory
pub room-inside : (room i n : ℕ) (memory : List ℕ) → length memory ≡ 16 * room → i < 16 → n ≤ room → i * room + n ≤ length memory
room-inside room i n memory size lt h = omega (arith, suc-mul i room, mul-le-mul_right {m = suc i} {n = 16} room lt)

-- so the first n bytes of a room are n bytes
pub room-length : (room i n : ℕ) (memory : List ℕ) → length memory ≡ 16 * room → i < 16 → n ≤ room → length (in_room room memory i n) ≡ n
room-length room i n memory size lt h = simp (length-take, length-drop) (omega (arith, room-inside room i n memory size lt h))

-- bytes written into room j, behind n others
module _ (room : ℕ) (memory : List ℕ) (size : length memory ≡ 16 * room) (j : ℕ) (lt : j < 16) (n : ℕ) (bytes : List ℕ) (fit : n + length bytes ≤ room) where
  inside : j * room + n + length bytes ≤ length memory
  inside = omega (arith, room-inside room j (n + length bytes) memory size lt fit)

  pub stored-length : length (written memory (j * room + n) bytes) ≡ length memory
  stored-length = length-written memory bytes (j * room + n) inside

  pub stored-own : in_room room (written memory (j * room + n) bytes) j (n + length bytes) ≡ in_room room memory j n ++ bytes
  stored-own = then_bytes memory bytes (j * room + n) inside (j * room) n refl

  -- every other room stays
  pub stored_apart : (i m : ℕ) → (i ≡ j → ⊥) → m ≤ room → in_room room (written memory (j * room + n) bytes) i m ≡ in_room room memory i m
  stored_apart i m ne small = go (dec_lt i j)
    where
      go : Dec (i < j) → in_room room (written memory (j * room + n) bytes) i m ≡ in_room room memory i m
      go (yes h) = before_stays memory bytes (j * room + n) inside (i * room) m (omega (arith, suc-mul i room, mul-le-mul_right {m = suc i} {n = j} room h))
      go (no h) =
          let gt : j < i = omega arith in
          behind_stays memory bytes (j * room + n) inside (i * room) m (omega (arith, suc-mul j room, mul-le-mul_right {m = suc j} {n = i} room gt))

-- Laws of `written`: what a run of bytes leaves before it, behind it and in its own place.
use Prim.Native.Nat.{ℕ, ◌≤◌, ◌<◌, ◌+◌, ◌-◌}
use mathlib.Core.Path.{◌≡◌, refl, ap, ap₂, sym, ◌∙◌}
use mathlib.Core.List.{List, [], ◌++◌, append_assoc, append-nil}
use native.Mathlib.Omega.{arith}
use native.Mathlib.Nat.{zero-add, add-zero, add_assoc}
use native.Mathlib.Numerals.{add-one}
use lib.ListN.{length, get_or, take, drop, set, take-append-drop, length-append, length-take, length-drop, drop_of_length-le, get_or-append}
use lib.Seq.{paste, paste-suc, take_all, take-length, take-take, take-add, take-append-le, drop-append-le, drop-append-add, drop-drop, drop_at, take_at, length-take-le, get_or-take, sets, sets-eq}
use borrow.Rule.Slice.PartMut.{mid_of, put_mid}
use Rattle.lists.specs.Bytes.{written}

-- the copying loop's turn
pub copy_next : (d s l : List ℕ) (i : ℕ) → i < length s → length s ≤ length d → l ≡ paste d 0 s i → set l i (get_or s i 0) ≡ paste d 0 s (i + 1)
copy_next d s l i h g e =
    ap (λ (m : List ℕ). set m i (get_or s i 0)) e
    ∙ (ap (λ (k : ℕ). set (paste d 0 s i) k (get_or s i 0)) (sym (zero-add i))
    ∙ (paste-suc d 0 s i 0 (omega arith) h ∙ ap (λ (k : ℕ). paste d 0 s k) (sym (add-one i))))

-- and its end
pub copied : (d s : List ℕ) → paste d 0 s (length s) ≡ written d 0 s
unfolding written
copied d s = simp take-length

pub written_front : (memory bytes : List ℕ) → written memory 0 bytes ≡ bytes ++ drop (length bytes) memory
unfolding written
written_front memory bytes = simp zero-add

pub written_is : (memory bytes : List ℕ) (at : ℕ) → written memory at bytes ≡ take at memory ++ (bytes ++ drop (at + length bytes) memory)
unfolding written
written_is memory bytes at = append_assoc (take at memory) bytes (drop (at + length bytes) memory)

-- no bytes change nothing
pub written-nothing : (memory : List ℕ) (at : ℕ) → written memory at [] ≡ memory
unfolding written
written-nothing memory at = simp (append-nil, add-zero at) (take-append-drop at memory)

-- a copy into the part from `at` on
pub written-part : (memory bytes part : List ℕ) (at : ℕ) → at + length bytes ≤ length memory
    → part ≡ written (mid_of at (length memory - at) memory) 0 bytes
    → put_mid at (length memory - at) memory part ≡ written memory at bytes
written-part memory bytes part at h e =
    let whole : take (length memory - at) (drop at memory) ≡ drop at memory = take_all (length memory - at) (drop at memory) (simp length-drop (omega arith)) in
    let rest : drop (length memory - at) (drop at memory) ≡ [] = drop_of_length-le (drop at memory) {i = length memory - at} (simp length-drop (omega arith)) in
    rw (e, written_front) (simp (written_is, whole, rest, drop-drop, append-nil, append_assoc))

-- a run of single stores
pub stores : (words values : List ℕ) (at : ℕ) → at + length values ≤ length words → sets words at values ≡ written words at values
unfolding written
stores words values at h = sets-eq values words at h

module _ (words values : List ℕ) (at : ℕ) (fits : at + length values ≤ length words) where
  pub length-written : length (written words at values) ≡ length words
  unfolding written
  length-written = simp (length-append, length-take, length-drop) (omega arith)

  -- what stands before the place stays
  pub get_d_before : (i : ℕ) → i < at → get_or (written words at values) i 0 ≡ get_or words i 0
  unfolding written
  get_d_before i h =
      let long : i < length (take at words) = simp length-take (omega arith) in
      let longer : i < length (take at words ++ values) = simp (length-append, length-take) (omega arith) in
      get_or-append (take at words ++ values) _ 0 i longer ∙ (get_or-append (take at words) _ 0 i long ∙ get_or-take at words i 0 h)

  pub take-before : (n : ℕ) → n ≤ at → take n (written words at values) ≡ take n words
  unfolding written
  take-before n h =
      let long : n ≤ length (take at words) = simp length-take (omega arith) in
      let longer : n ≤ length (take at words ++ values) = simp (length-append, length-take) (omega arith) in
      take-append-le n (take at words ++ values) _ longer ∙ (take-append-le n (take at words) _ long ∙ take-take n at words h)

  -- what stands behind it stays
  pub drop-behind : (n : ℕ) → at + length values ≤ n → drop n (written words at values) ≡ drop n words
  unfolding written
  drop-behind n h =
      let front : length (take at words ++ values) ≡ at + length values = simp (length-append, length-take) (omega arith) in
      let more : n ≡ length (take at words ++ values) + (n - (at + length values)) = rw front (omega arith) in
      let same : at + length values + (n - (at + length values)) ≡ n = omega arith in
      ap (λ (k : ℕ). drop k (take at words ++ values ++ drop (at + length values) words)) more
      ∙ (drop-append-add (take at words ++ values) (drop (at + length values) words) (n - (at + length values))
      ∙ (drop-drop (n - (at + length values)) (at + length values) words ∙ ap (λ (k : ℕ). drop k words) same))

  -- and in the place stand the values
  pub part-written : take (length values) (drop at (written words at values)) ≡ values
  unfolding written
  part-written =
      let front : length (take at words) ≡ at = length-take-le at words (omega arith) in
      ap (λ (l : List ℕ). take (length values) (drop at l)) (append_assoc (take at words) values (drop (at + length values) words))
      ∙ (ap (λ (l : List ℕ). take (length values) l) (drop_at (take at words) (values ++ drop (at + length values) words) at front)
      ∙ take_at values (drop (at + length values) words) (length values) refl)

-- without the first n words the place is n earlier
pub drop-written : (n : ℕ) (words values : List ℕ) (at : ℕ) → n + at + length values ≤ length words → drop n (written words (n + at) values) ≡ written (drop n words) at values
unfolding written
drop-written n words values at fits =
    let long : n ≤ length (take (n + at) words) = simp length-take (omega arith) in
    let longer : n ≤ length (take (n + at) words ++ values) = simp (length-append, length-take) (omega arith) in
    let seam : length (take n words) ≡ n = length-take-le n words (omega arith) in
    let front : drop n (take (n + at) words) ≡ take at (drop n words) = ap (drop n) (take-add n at words) ∙ drop_at (take n words) (take at (drop n words)) n seam in
    drop-append-le n (take (n + at) words ++ values) _ longer
    ∙ (ap (λ (l : List ℕ). l ++ drop (n + at + length values) words) (drop-append-le n (take (n + at) words) values long)
    ∙ (ap (λ (l : List ℕ). l ++ values ++ drop (n + at + length values) words) front
    ∙ ap (λ (l : List ℕ). take at (drop n words) ++ values ++ l) (ap (λ (k : ℕ). drop k words) (add_assoc n at (length values)) ∙ sym (drop-drop (at + length values) n words))))

-- a run written behind another makes one run of the two
pub written_behind : (words first second : List ℕ) (at : ℕ) → at + length first + length second ≤ length words
    → written (written words at first) (at + length first) second ≡ written words at (first ++ second)
unfolding written
written_behind words first second at fits =
    let front : take (at + length first) (written words at first) ≡ take at words ++ first =
    take_at (take at words ++ first) _ (at + length first) (simp (length-append, length-take) (omega arith)) in
    let rest : drop (at + length first + length second) (written words at first) ≡ drop (at + length first + length second) words =
    drop-behind words first at (omega arith) (at + length first + length second) (omega arith) in
    ap₂ (λ (x y : List ℕ). x ++ second ++ y) front rest ∙ simp (append_assoc, length-append, add_assoc)

-- Which segments are still to come: those from 0 to `most` that are not marked, each once.
use Prim.Native.Nat.{ℕ, zero, suc, ◌+◌, ◌≤◌, ◌<◌}
use mathlib.Core.Path.{◌≡◌, refl, ap, sym, ◌∙◌}
use mathlib.Core.List.{List, [], ◌∷◌}
use mathlib.Core.Bool.{Bool, true, false, cond, not, ◌&&◌, and-false}
use native.Mathlib.Omega.{arith}
use native.Mathlib.Decide.{ℕ_discrete, dec_lt}
use lib.ListN.{length}
use lib.Dec.{eqb, ltb, leb}
use borrow.Author.Tests.{eq-eqb, ne_eqb, lt-ltb, le-ltb, le-leb, lt-leb, leb-true}
use Rattle.marks.specs.Marks.{marked, with_mark, all_marked}
use Rattle.marks.proofs.Bits.{mark_set, mark_other}
use Rattle.marks.proofs.Marks.{nothing-marked}
use Rattle.mailing.specs.Run.{times}

-- ---- All marks

all_set : (marks count : ℕ) → ((j : ℕ) → j < count → marked marks j ≡ true) → all_marked marks count ≡ true
unfolding all_marked
all_set marks zero each = refl
all_set marks (suc n) each = rw (all_set marks n (λ j h. each j (omega arith)), each n (omega arith))

not-all : (marks count j : ℕ) → j < count → marked marks j ≡ false → all_marked marks count ≡ false
unfolding all_marked
not-all marks zero j h e = absurd (omega arith)
not-all marks (suc n) j h e = go (ℕ_discrete j n) (λ l. not-all marks n j l e)
  where
    go : Dec (j ≡ n) → (j < n → all_marked marks n ≡ false) → (all_marked marks n && marked marks n) ≡ false
    go (yes q) ih = rw (ap (marked marks) (sym q) ∙ e) (and-false (all_marked marks n))
    go (no q) ih = rw (ih (omega arith))

-- ---- What is awaited

-- how often each number is still to come
abbrev pub Awaits : (most marks : ℕ) → List ℕ → Type 0
Awaits most marks ks = (j : ℕ) → times j ks ≡ cond (leb j most && not (marked marks j)) 1 0

-- at first, every segment
pub awaits_all : (most : ℕ) (ks : List ℕ) → ((j : ℕ) → times j ks ≡ cond (leb j most) 1 0) → Awaits most 0 ks
awaits_all most ks e j = e j ∙ rw (nothing-marked j) (go (leb j most))
  where
    go : (b : Bool) → ◌≡◌ {A = ℕ} (cond b 1 0) (cond (b && true) 1 0)
    go true = refl
    go false = refl

module _ (most marks k : ℕ) (ks : List ℕ) (w : Awaits most marks (k ∷ ks)) where
  itself : 1 + times k ks ≡ cond (leb k most && not (marked marks k)) 1 0
  itself = rw (eq-eqb k k refl) at (w k)

  -- the next one is a segment of the message, not marked, and comes no second time
  pub next_awaited : (k ≤ most) × (marked marks k ≡ false) × (times k ks ≡ 0)
  next_awaited = go (leb k most) (marked marks k) refl itself
    where
      go : (a b : Bool) → leb k most ≡ a → 1 + times k ks ≡ cond (a && not b) 1 0 → (k ≤ most) × (b ≡ false) × (times k ks ≡ 0)
      go true true e h = absurd (omega arith)
      go true false e h = (leb-true k most e, refl, omega arith)
      go false b e h = absurd (omega arith)

  -- once it is marked, the others are awaited
  pub then_awaited : Awaits most (with_mark marks k) ks
  then_awaited j = go (ℕ_discrete j k)
    where
      go : Dec (j ≡ k) → times j ks ≡ cond (leb j most && not (marked (with_mark marks k) j)) 1 0
      go (yes q) = rw (q, mark_set marks k next_awaited.1, and-false (leb k most)) next_awaited.2
      go (no q) =
          let others : times j ks ≡ cond (eqb j k) 1 0 + times j ks = rw (ne_eqb j k q) (omega arith) in
          rw (mark_other marks k next_awaited.1 j q) (others ∙ w j)

  -- so not all are marked
  pub some_awaited : all_marked marks (most + 1) ≡ false
  some_awaited = let a = next_awaited in not-all marks (most + 1) k (omega arith) a.1

-- where none is awaited, all are marked
pub none_awaited : (most marks : ℕ) → Awaits most marks [] → (j : ℕ) → j ≤ most → marked marks j ≡ true
none_awaited most marks w j h = go (marked marks j) (rw (le-leb j most h) at (w j))
  where
    go : (b : Bool) → ◌≡◌ {A = ℕ} 0 (cond (not b) 1 0) → b ≡ true
    go true e = refl
    go false e = absurd (omega arith)

pub all_come : (most marks : ℕ) → Awaits most marks [] → all_marked marks (most + 1) ≡ true
all_come most marks w = all_set marks (most + 1) (λ j h. none_awaited most marks w j (omega arith))

-- ---- How many they are

-- how many of a list are below n
total : ℕ → List ℕ → ℕ
total zero ks = 0
total (suc n) ks = times n ks + total n ks

total-nil : (n : ℕ) → total n [] ≡ 0
unfolding total
total-nil zero = refl
total-nil (suc n) = omega (arith, total-nil n)

total-cons : (n k : ℕ) (ks : List ℕ) → total n (k ∷ ks) ≡ cond (ltb k n) 1 0 + total n ks
unfolding total
total-cons zero k ks = rw (le-ltb k 0 (omega arith))
total-cons (suc n) k ks = go (ℕ_discrete n k) (dec_lt k n) (total-cons n k ks)
  where
    go : Dec (n ≡ k) → Dec (k < n) → total n (k ∷ ks) ≡ cond (ltb k n) 1 0 + total n ks
        → cond (eqb n k) 1 0 + times n ks + total n (k ∷ ks) ≡ cond (ltb k (suc n)) 1 0 + (times n ks + total n ks)
    go (yes e) (yes l) ih = absurd (omega arith)
    go (yes e) (no l) ih = rw (ih, eq-eqb n k e, le-ltb k n (omega arith), lt-ltb k (suc n) (omega arith)) (omega arith)
    go (no e) (yes l) ih = rw (ih, ne_eqb n k e, lt-ltb k n l, lt-ltb k (suc n) (omega arith)) (omega arith)
    go (no e) (no l) ih = rw (ih, ne_eqb n k e, le-ltb k n (omega arith), le-ltb k (suc n) (omega arith)) (omega arith)

total-length : (n : ℕ) (ks : List ℕ) → ((k : ℕ) → n ≤ k → times k ks ≡ 0) → total n ks ≡ length ks
total-length n [] none = total-nil n
total-length n (k ∷ ks) none = total-cons n k ks ∙ go (dec_lt k n) (total-length n ks (λ j h. let z = none j h in omega arith))
  where
    go : Dec (k < n) → total n ks ≡ length ks → cond (ltb k n) 1 0 + total n ks ≡ suc (length ks)
    go (yes l) ih = rw (lt-ltb k n l, ih) (omega arith)
    go (no l) ih = let z : 1 + times k ks ≡ 0 = rw (eq-eqb k k refl) at (none k (omega arith)) in absurd (omega arith)

total_ones : (n : ℕ) (ks : List ℕ) → ((k : ℕ) → k < n → times k ks ≡ 1) → total n ks ≡ n
unfolding total
total_ones zero ks each = refl
total_ones (suc n) ks each = omega (arith, each n (omega arith), total_ones n ks (λ k h. each k (omega arith)))

-- as many as the message has segments
pub as_many : (most : ℕ) (ks : List ℕ) → ((j : ℕ) → times j ks ≡ cond (leb j most) 1 0) → length ks ≡ suc most
as_many most ks e =
    sym (total-length (suc most) ks (λ k h. e k ∙ rw (lt-leb k most h)))
    ∙ total_ones (suc most) ks (λ k h. e k ∙ rw (le-leb k most (omega arith)))

-- Laws of `first_of`: a walk's turn, found and not found; what the number says of the list.
use Prim.Native.Nat.{ℕ, zero, suc, ◌≤◌, ◌<◌, ◌+◌}
use mathlib.Core.Path.{◌≡◌, refl, ap, sym, ◌∙◌}
use mathlib.Core.List.{List, [], ◌∷◌}
use mathlib.Core.Bool.{Bool, true, false, cond}
use native.Mathlib.Omega.{arith}
use native.Mathlib.Numerals.{add-one}
use lib.ListN.{length, get_or, drop, drop_of_length-le}
use lib.Seq.{drop-cons}
use Rattle.std.specs.Prelude.{Option, Some, None, IfSome, is_some, unwrap_or}
use Rattle.lists.specs.First.{first_of, any, IsFound}
use Rattle.lists.proofs.Tests.{by_test, neither}

-- what a walk that stands at i knows: none before i passes
abbrev pub Passed : {A : Type 0} → (A → Bool) → List A → ℕ → Type 0
Passed p l i = first_of p l ≡ i + first_of p (drop i l)

module _ {A : Type 0} (p : A → Bool) (l : List A) (d : A) (i : ℕ) where
  pub first_next : i < length l → Passed p l i → p (get_or l i d) ≡ false → Passed p l (i + 1)
  unfolding first_of
  first_next h w e = w ∙ (ap (λ (m : List A). i + first_of p m) (drop-cons l i d h) ∙ rw (e, add-one) (omega arith))

  pub first_found : i < length l → Passed p l i → p (get_or l i d) ≡ true → i ≡ first_of p l
  unfolding first_of
  first_found h w e = sym (w ∙ (ap (λ (m : List A). i + first_of p m) (drop-cons l i d h) ∙ rw e (omega arith)))

pub first-none : {A : Type 0} (p : A → Bool) (l : List A) (i n : ℕ) → length l ≡ n → i ≤ n → n ≤ i → Passed p l i → n ≡ first_of p l
unfolding first_of
first-none p l i n z a b w =
    let e : drop i l ≡ [] = drop_of_length-le l {i = i} (omega arith) in
    let w' : first_of p l ≡ i + 0 = rw e at w in
    omega arith

pub first_le : {A : Type 0} (p : A → Bool) (l : List A) → first_of p l ≤ length l
unfolding first_of
first_le p [] = omega arith
first_le {A} p (x ∷ xs) = go (p x) (first_le p xs)
  where
    go : (b : Bool) → first_of p xs ≤ length xs → cond b zero (suc (first_of p xs)) ≤ suc (length xs)
    go true h = omega arith
    go false h = omega arith

-- what lies before the first does not pass
pub first_before : {A : Type 0} (p : A → Bool) (l : List A) (d : A) (i : ℕ) → i < first_of p l → p (get_or l i d) ≡ false
unfolding first_of
first_before p [] d i h = absurd (omega arith)
first_before {A} p (x ∷ xs) d i h = go (p x) refl i h (λ k. first_before p xs d k)
  where
    go : (b : Bool) → p x ≡ b → (i : ℕ) → i < cond b zero (suc (first_of p xs)) → ((k : ℕ) → k < first_of p xs → p (get_or xs k d) ≡ false) → p (get_or (x ∷ xs) i d) ≡ false
    go true e i h r = absurd (omega arith)
    go false e ℕ.zero h r = e
    go false e (suc i) h r = r i (omega arith)

-- and the first does, where there is one
pub first_passes : {A : Type 0} (p : A → Bool) (l : List A) (d : A) → first_of p l < length l → p (get_or l (first_of p l) d) ≡ true
unfolding first_of
first_passes p [] d h = absurd (omega arith)
first_passes {A} p (x ∷ xs) d h = go (p x) refl h (first_passes p xs d)
  where
    go : (b : Bool) → p x ≡ b → cond b zero (suc (first_of p xs)) < suc (length xs) → (first_of p xs < length xs → p (get_or xs (first_of p xs) d) ≡ true)
        → p (get_or (x ∷ xs) (cond b zero (suc (first_of p xs))) d) ≡ true
    go true e h r = e
    go false e h r = r (omega arith)

-- where none passes, each does not
pub none_passes : {A : Type 0} (p : A → Bool) (l : List A) (d : A) → any p l ≡ false → (i : ℕ) → i < length l → p (get_or l i d) ≡ false
unfolding any
none_passes p [] d e i h = absurd (omega arith)
none_passes p (x ∷ xs) d e ℕ.zero h = (neither (p x) (any p xs) e).0
none_passes p (x ∷ xs) d e (suc i) h = none_passes p xs d (neither (p x) (any p xs) e).1 i (omega arith)

-- where each does not, none passes
pub all_fail : {A : Type 0} (p : A → Bool) (l : List A) (d : A) → ((i : ℕ) → i < length l → p (get_or l i d) ≡ false) → any p l ≡ false
unfolding any
all_fail p [] d f = refl
all_fail p (x ∷ xs) d f = rw (f zero (omega arith)) (all_fail p xs d (λ i h. f (suc i) (omega arith)))

-- one that passes is enough
pub any_found : {A : Type 0} (p : A → Bool) (l : List A) (d : A) (i : ℕ) → i < length l → p (get_or l i d) ≡ true → any p l ≡ true
unfolding any
any_found p [] d i h e = absurd (omega arith)
any_found p (x ∷ xs) d ℕ.zero h e = rw e
any_found p (x ∷ xs) d (suc i) h e = by_test (p x) (λ t. rw t) (λ t. rw t (any_found p xs d i (omega arith) e))

-- a walk to the end that found none
pub any_none : {A : Type 0} (p : A → Bool) (l : List A) (i n : ℕ) → length l ≡ n → i ≤ n → n ≤ i → Passed p l i → any p l ≡ false
unfolding any
any_none p [] i n z a b w = refl
any_none p (x ∷ xs) i n z a b w = all_fail p (x ∷ xs) x (λ j h. first_before p (x ∷ xs) x j (omega (arith, first-none p (x ∷ xs) i n z a b w)))

-- none of the first i passes: so far has a walk passed
pub passed_by : {A : Type 0} (p : A → Bool) (l : List A) (d : A) (i : ℕ) → i ≤ length l → ((k : ℕ) → k < i → p (get_or l k d) ≡ false) → Passed p l i
passed_by p l d zero h before = omega arith
passed_by p l d (suc i) h before =
    rw (← add-one i) (first_next p l d i (omega arith) (passed_by p l d i (omega arith) (λ k b. before k (omega arith))) (before i (omega arith)))

-- the lowest number that passes is that of the first element that does; the last two say what a call tells of the element there
pub found_first : {A : Type 0} (p : A → Bool) (l : List A) (d : A) (count : ℕ) → length l ≡ count → {Hit Miss : ℕ → Type 0} (found : Option ℕ)
    → IfSome found Hit → ((k : ℕ) → k < unwrap_or found count → Miss k)
    → ((n : ℕ) → Hit n → (n < count) × (p (get_or l n d) ≡ true)) → ((n : ℕ) → n < count → Miss n → p (get_or l n d) ≡ false)
    → IsFound count (first_of p l) found
found_first p l d count z None hit before hits misses =
    (first-none p l count count z (omega arith) (omega arith) (passed_by p l d count (omega arith) (λ k h. misses k h (before k h))), tt)
found_first p l d count z (Some n) hit before hits misses =
    let passes = hits n hit in
    (first_found p l d n (rw z passes.0) (passed_by p l d n (omega arith) (λ k h. misses k (omega arith) (before k h))) passes.1, passes.0)

-- and whether one was found is whether one passes
pub found_any : {A : Type 0} (p : A → Bool) (l : List A) (d : A) (count : ℕ) → length l ≡ count → {Hit Miss : ℕ → Type 0} (found : Option ℕ)
    → IfSome found Hit → ((k : ℕ) → k < unwrap_or found count → Miss k)
    → ((n : ℕ) → Hit n → (n < count) × (p (get_or l n d) ≡ true)) → ((n : ℕ) → n < count → Miss n → p (get_or l n d) ≡ false)
    → is_some found ≡ any p l
found_any p l d count z None hit before hits misses = sym (all_fail p l d (λ k h. misses k (rw (← z) h) (before k (rw (← z) h))))
found_any p l d count z (Some n) hit before hits misses =
    let passes = hits n hit in
    sym (any_found p l d n (rw z passes.0) passes.1)

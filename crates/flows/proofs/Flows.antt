-- Flows among others, and pigeonholes.
use Prim.Native.Nat.{ℕ, zero, suc, ◌≤◌, ◌<◌}
use native.Mathlib.Omega.{arith}
use mathlib.Core.Path.{◌≡◌, refl, ap, sym, ◌∙◌}
use mathlib.Core.Bool.{Bool, true, false, cond, ◌||◌, false≢true}
use mathlib.Core.List.{List, [], ◌∷◌}
use lib.ListN.{length}
use Rattle.wire.specs.declared.Flow.{Flow}
use Rattle.wire.specs.Type9.{same_flow}
use Rattle.lists.specs.First.{any}
use Rattle.wire.proofs.SameFlow.{same_true}
use Rattle.flows.specs.ByFlow.{among}

-- the flows without the first that is k
remove : Flow → List Flow → List Flow
remove k [] = []
remove k (x ∷ xs) = cond (same_flow k x) xs (x ∷ remove k xs)

remove-length : (k : Flow) (l : List Flow) → among k l ≡ true → suc (length (remove k l)) ≡ length l
unfolding remove any
remove-length k [] e = absurd (false≢true e)
remove-length k (x ∷ xs) e = go (same_flow k x) e (remove-length k xs)
  where
    go : (b : Bool) → (b || among k xs) ≡ true → (among k xs ≡ true → suc (length (remove k xs)) ≡ length xs) → suc (length (cond b xs (x ∷ remove k xs))) ≡ suc (length xs)
    go true e ih = refl
    go false e ih = ap suc (ih e)

-- another flow stays among them
remove-among : (k j : Flow) (l : List Flow) → (j ≡ k → ⊥) → among j l ≡ true → among j (remove k l) ≡ true
unfolding remove any
remove-among k j [] ne e = e
remove-among k j (x ∷ xs) ne e = go (remove-among k j xs ne) (same_flow k x) refl (same_flow j x) refl
  where
    go : (among j xs ≡ true → among j (remove k xs) ≡ true) → (b : Bool) → same_flow k x ≡ b → (d : Bool) → same_flow j x ≡ d → among j (cond (same_flow k x) xs (x ∷ remove k xs)) ≡ true
    go ih true t true u = absurd (ne (same_true j x u ∙ sym (same_true k x t)))
    go ih true t false u = rw t (rw u at e)
    go ih false t true u = rw (t, u)
    go ih false t false u = rw (t, u) (ih (rw u at e))

-- n different flows among others are at most as many
pub pigeon : (n : ℕ) (f : ℕ → Flow) (l : List Flow) → ((i : ℕ) → i < n → among (f i) l ≡ true) → ((i j : ℕ) → i < n → j < n → f i ≡ f j → i ≡ j) → n ≤ length l
pigeon zero f l inside apart = omega arith
pigeon (suc n) f l inside apart =
    let e : suc (length (remove (f n) l)) ≡ length l = remove-length (f n) l (inside n (omega arith)) in
    let ih : n ≤ length (remove (f n) l) =
    pigeon n f (remove (f n) l)
    (λ i h. remove-among (f n) (f i) l (λ q. let z : i ≡ n = apart i n (omega arith) (omega arith) q in omega arith) (inside i (omega arith)))
    (λ i j h g q. apart i j (omega arith) (omega arith) q) in
    omega arith

-- n different flows among others, and k among those but none of the n: fewer
pub pigeon-less : (n : ℕ) (f : ℕ → Flow) (k : Flow) (l : List Flow) → among k l ≡ true → ((i : ℕ) → i < n → f i ≡ k → ⊥) → ((i : ℕ) → i < n → among (f i) l ≡ true)
    → ((i j : ℕ) → i < n → j < n → f i ≡ f j → i ≡ j) → n < length l
pigeon-less n f k l here new inside apart =
    let m : n ≤ length (remove k l) = pigeon n f (remove k l) (λ i h. remove-among k (f i) l (new i h) (inside i h)) apart in
    omega (arith, remove-length k l here)

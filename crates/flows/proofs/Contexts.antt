-- Lists of stream contexts: which one is a flow's, and which is free.
use Prim.Native.Nat.{ℕ, zero, suc, ◌≤◌, ◌<◌}
use native.Mathlib.Omega.{arith}
use native.Mathlib.Decide.{ℕ_discrete, dec_lt}
use mathlib.Core.Path.{◌≡◌, refl, ap, sym, ◌∙◌}
use mathlib.Core.Bool.{Bool, true, false, cond, not, false≢true, true≢false}
use mathlib.Core.List.{List, [], ◌∷◌}
use lib.ListN.{length, get_or, set, length-set, get_or-eq_default}
use lib.Seq.{get_or-set_same, get_or-set_other}
use borrow.Author.Tests.{not-true}
use Rattle.lists.specs.First.{first_of}
use Rattle.lists.proofs.First.{first_before, first_passes, first_le}
use Rattle.wire.specs.declared.Flow.{Flow}
use Rattle.wire.specs.Type9.{same_flow}
use Rattle.contexts.specs.declared.StreamContext.{StreamContext}
use Rattle.contexts.specs.State.{closed_stream, is_free_stream, is_of_flow}
use Rattle.lists.proofs.Tests.{both}
use Rattle.flows.specs.ByFlow.{among}
use Rattle.wire.proofs.SameFlow.{eq-same}
use Rattle.flows.proofs.Flows.{pigeon-less}

-- context i; a closed one past the last
abbrev pub at : List StreamContext → ℕ → StreamContext
at cs i = get_or cs i closed_stream

-- the number of flow k's context, and of the first free one
abbrev pub own : List StreamContext → Flow → ℕ
own cs k = first_of (is_of_flow k) cs

abbrev pub spare : List StreamContext → ℕ
spare cs = first_of is_free_stream cs

-- ---- one context
pub of_open : (k : Flow) (c : StreamContext) → is_of_flow k c ≡ true → is_free_stream c ≡ false
unfolding is_of_flow
of_open k c e = not-true (is_free_stream c) (both (not (is_free_stream c)) (same_flow c.flow k) e).0

pub made_of : (k : Flow) (c : StreamContext) → is_free_stream c ≡ false → c.flow ≡ k → is_of_flow k c ≡ true
unfolding is_of_flow
made_of k c e f = rw (e, eq-same c.flow k f)

pub closed_free : is_free_stream closed_stream ≡ true
unfolding is_free_stream
closed_free = refl

-- a free context is no flow's
pub free_of_none : {A : Type 0} (k : Flow) (c : StreamContext) → is_free_stream c ≡ true → is_of_flow k c ≡ true → A
free_of_none k c f e = absurd (true≢false (sym f ∙ of_open k c e))

-- ---- a list of them
pub past : (cs : List StreamContext) (i : ℕ) → length cs ≤ i → at cs i ≡ closed_stream
past cs i h = get_or-eq_default cs closed_stream h

-- an open context is none past the last
pub within : (cs : List StreamContext) (i : ℕ) → is_free_stream (at cs i) ≡ false → i < length cs
within cs i e = go (dec_lt i (length cs))
  where
    go : Dec (i < length cs) → i < length cs
    go (yes h) = h
    go (no h) = absurd (true≢false (sym closed_free ∙ (ap is_free_stream (sym (past cs i (omega arith))) ∙ e)))

-- the first that passes is no further than any that does
pub first_upto : {A : Type 0} (p : A → Bool) (d : A) (l : List A) (i : ℕ) → p (get_or l i d) ≡ true → first_of p l ≤ i
first_upto p d l i e = go (dec_lt i (first_of p l))
  where
    go : Dec (i < first_of p l) → first_of p l ≤ i
    go (yes h) = absurd (false≢true (sym (first_before p l d i h) ∙ e))
    go (no h) = omega arith

-- a change that leaves the test as it was leaves the number
pub first_set : {A : Type 0} (p : A → Bool) (d : A) (l : List A) (i : ℕ) (y : A) → p (get_or l i d) ≡ p y → first_of p (set l i y) ≡ first_of p l
unfolding first_of
first_set p d [] i y e = refl
first_set p d (x ∷ xs) zero y e = ap (λ (b : Bool). cond b zero (suc (first_of p xs))) (sym e)
first_set p d (x ∷ xs) (suc i) y e = ap (λ (n : ℕ). cond (p x) zero (suc n)) (first_set p d xs i y e)

-- what stands in place i once c was put into place j: c where i is j and is a place, else what stood there
pub put_closed : (cs : List StreamContext) (j : ℕ) → at (set cs j closed_stream) j ≡ closed_stream
put_closed cs j = go (dec_lt j (length cs))
  where
    go : Dec (j < length cs) → at (set cs j closed_stream) j ≡ closed_stream
    go (yes h) = get_or-set_same cs j closed_stream closed_stream h
    go (no h) = past (set cs j closed_stream) j (omega (arith, length-set cs j closed_stream))

pub data Place (cs : List StreamContext) (j : ℕ) (c : StreamContext) (i : ℕ) : Type 0 where
  here : i ≡ j → at (set cs j c) i ≡ c → Place cs j c i
  there : (i ≡ j → ⊥) → at (set cs j c) i ≡ at cs i → Place cs j c i

pub place : (cs : List StreamContext) (j : ℕ) (c : StreamContext) → at (set cs j c) j ≡ c → (i : ℕ) → Place cs j c i
place cs j c sits i = go (ℕ_discrete i j)
  where
    go : Dec (i ≡ j) → Place cs j c i
    go (yes e) = here e (ap (at (set cs j c)) e ∙ sits)
    go (no e) = there e (get_or-set_other cs j i c closed_stream e)

-- a flow's own context, found or not
pub data Own (cs : List StreamContext) (k : Flow) : Type 0 where
  found : own cs k < length cs → is_of_flow k (at cs (own cs k)) ≡ true → Own cs k
  lacks : own cs k ≡ length cs → ((i : ℕ) → is_of_flow k (at cs i) ≡ true → ⊥) → Own cs k

pub own_cases : (cs : List StreamContext) (k : Flow) → Own cs k
own_cases cs k = go (dec_lt (own cs k) (length cs))
  where
    go : Dec (own cs k < length cs) → Own cs k
    go (yes h) = found h (first_passes (is_of_flow k) cs closed_stream h)
    go (no h) =
        lacks (omega (arith, first_le (is_of_flow k) cs))
        (λ i e. let b : i < length cs = within cs i (of_open k (at cs i) e) in omega (arith, first_upto (is_of_flow k) closed_stream cs i e))

-- no two contexts have one flow
abbrev pub Once : List StreamContext → Type 0
Once cs = (i j : ℕ) (k : Flow) → is_of_flow k (at cs i) ≡ true → is_of_flow k (at cs j) ≡ true → i ≡ j

-- each open context has one of these flows
abbrev pub Inside : List Flow → List StreamContext → Type 0
Inside flows cs = (i : ℕ) (k : Flow) → is_of_flow k (at cs i) ≡ true → among k flows ≡ true

-- a flow that has no context finds one free, where there are no more flows than contexts
pub spare-there : (flows : List Flow) (cs : List StreamContext) → length flows ≤ length cs → Once cs → Inside flows cs → (k : Flow) → among k flows ≡ true
    → ((i : ℕ) → is_of_flow k (at cs i) ≡ true → ⊥) → spare cs < length cs
spare-there flows cs few once inside k member none_of = go (dec_lt (spare cs) (length cs))
  where
    go : Dec (spare cs < length cs) → spare cs < length cs
    go (yes h) = h
    go (no h) =
        let used : (i : ℕ) → i < length cs → is_free_stream (at cs i) ≡ false = λ i b. first_before is_free_stream cs closed_stream i (omega arith) in
        let mine : (i : ℕ) → i < length cs → is_of_flow (at cs i).flow (at cs i) ≡ true = λ i b. made_of (at cs i).flow (at cs i) (used i b) refl in
        let less : length cs < length flows =
        pigeon-less (length cs) (λ i. (at cs i).flow) k flows member
        (λ i b e. none_of i (made_of k (at cs i) (used i b) e))
        (λ i b. inside i (at cs i).flow (mine i b))
        (λ i j b d e. once i j (at cs j).flow (made_of (at cs j).flow (at cs i) (used i b) e) (mine j d)) in
        absurd (omega arith)

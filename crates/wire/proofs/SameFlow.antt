-- The test of two flows is sameness. All that is known of `same_flow`: nothing above looks into it.
use Prim.Native.Nat.{ℕ}
use mathlib.Core.Path.{◌≡◌, refl, ap, ap₂, sym, ◌∙◌}
use mathlib.Core.Bool.{Bool, true, false, ◌&&◌, false≢true}
use lib.Dec.{eqb}
use borrow.Author.Tests.{eqb-true, eq-eqb}
use Rattle.lists.proofs.Tests.{both}
use Rattle.wire.specs.declared.Flow.{Flow}
use Rattle.wire.specs.Type9.{same_flow}

pub same_true : (a b : Flow) → same_flow a b ≡ true → a ≡ b
unfolding same_flow
same_true a b e =
    let by_source = both (eqb a.source b.source) (eqb a.priority b.priority && eqb a.cos b.cos) e in
    let by_priority = both (eqb a.priority b.priority) (eqb a.cos b.cos) by_source.1 in
    ap₂ (λ (x y : ℕ). record { source = x; priority = y; cos = a.cos }) (eqb-true a.source b.source by_source.0) (eqb-true a.priority b.priority by_priority.0)
    ∙ ap (λ (z : ℕ). record { source = b.source; priority = b.priority; cos = z }) (eqb-true a.cos b.cos by_priority.1)

pub same_refl : (a : Flow) → same_flow a a ≡ true
unfolding same_flow
same_refl a = rw (eq-eqb a.source a.source refl, eq-eqb a.priority a.priority refl, eq-eqb a.cos a.cos refl)

pub eq-same : (a b : Flow) → a ≡ b → same_flow a b ≡ true
eq-same a b e = ap (λ (x : Flow). same_flow a x) (sym e) ∙ same_refl a

pub same_false : (a b : Flow) → same_flow a b ≡ false → a ≡ b → ⊥
same_false a b e q = false≢true (sym e ∙ eq-same a b q)

pub ne_same : (a b : Flow) → (a ≡ b → ⊥) → same_flow a b ≡ false
ne_same a b f = go (same_flow a b) refl
  where
    go : (t : Bool) → same_flow a b ≡ t → same_flow a b ≡ false
    go true e = absurd (f (same_true a b e))
    go false e = e

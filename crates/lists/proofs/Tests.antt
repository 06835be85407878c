-- Laws of tests: going by cases on one, and what is known once one has held or failed.
use mathlib.Core.Path.{◌≡◌, refl}
use mathlib.Core.Bool.{Bool, true, false, cond, not, ◌||◌, ◌&&◌, false≢true, true≢false}

-- a fact and others, in a chain without parentheses
infixr 10 ◌and◌
pub ◌and◌ : {A B : Type 0} → A → B → A × B
a and b = (a, b)

-- by cases
pub by_test : {P : Type 0} (b : Bool) → (b ≡ true → P) → (b ≡ false → P) → P
by_test true yes_case no-case = yes_case refl
by_test false yes_case no-case = no-case refl

-- of two chosen from, each has it
pub chosen : {A : Type 0} (P : A → Type 0) (b : Bool) (x y : A) → P x → P y → P (cond b x y)
chosen P true x y p q = p
chosen P false x y p q = q

-- a test that cannot hold has failed
pub to_false : (b : Bool) → (b ≡ true → ⊥) → b ≡ false
to_false true h = absurd (h refl)
to_false false h = refl

-- two tests at once
pub neither : (a b : Bool) → (a || b) ≡ false → (a ≡ false) × (b ≡ false)
neither true b e = absurd (true≢false e)
neither false b e = (refl, e)

pub both : (a b : Bool) → (a && b) ≡ true → (a ≡ true) × (b ≡ true)
both true b e = (refl, e)
both false b e = absurd (false≢true e)

-- where the first held, the second failed
pub not-second : (a b : Bool) → a ≡ true → (a && b) ≡ false → b ≡ false
not-second true b h e = e
not-second false b h e = absurd (false≢true h)

-- where the first failed
pub not_both : (a b : Bool) → (not a && b) ≡ false → a ≡ false → b ≡ false
not_both true b e h = absurd (true≢false h)
not_both false b e h = e

pub the_other : (a b : Bool) → not (a || b) ≡ false → a ≡ false → b ≡ true
the_other true b e h = absurd (true≢false h)
the_other false true e h = refl
the_other false false e h = absurd (true≢false e)

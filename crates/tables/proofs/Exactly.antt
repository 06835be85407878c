-- A number is answered exactly if its row's test holds and no earlier row's does; accepted exactly if no row's test holds.
use Prim.Native.Nat.{ℕ}
use mathlib.Core.Path.{◌≡◌, refl, ap, sym, ◌∙◌}
use mathlib.Core.Logic.{◌↔◌}
use mathlib.Core.List.{List, [], ◌∷◌, ◌++◌}
use mathlib.Core.Bool.{Bool, true, false, cond}
use native.Mathlib.Omega.{arith}
use Rattle.lists.specs.Each.{Each}
use Rattle.tables.specs.Refusals.{RowOf, VerdictOf, refuse, accept, verdict, none, Decides}

module _ {L : Type 0} where
  -- rows whose tests do not hold do not decide
  pub past : (earlier later : List (RowOf L)) → none earlier → verdict (earlier ++ later) ≡ verdict later
  unfolding verdict none
  past [] later n = refl
  past (r ∷ earlier) later n = rw n.0 (past earlier later n.1)

  -- a row that decides is answered
  pub answered : (table : List (RowOf L)) (r : RowOf L) → Decides table r → verdict table ≡ refuse r.number r.leaves
  unfolding verdict
  answered table r d = ap verdict d.place ∙ (past d.earlier (r ∷ d.later) d.before ∙ rw d.this)

  -- an answered number has a row that decides
  pub decided : (table : List (RowOf L)) (number : ℕ) (leaves : L) → verdict table ≡ refuse number leaves → (r : RowOf L) × Decides table r × (r.number ≡ number) × (r.leaves ≡ leaves)
  unfolding verdict none
  decided [] number leaves e = absurd (let z : ◌≡◌ {A = ℕ} 0 1 = cc in omega arith)
  decided (r ∷ table) number leaves e = go r.holds refl e (decided table number leaves)
    where
      go : (b : Bool) → r.holds ≡ b → cond b (refuse r.number r.leaves) (verdict table) ≡ refuse number leaves
          → (verdict table ≡ refuse number leaves → (r : RowOf L) × Decides table r × (r.number ≡ number) × (r.leaves ≡ leaves))
          → (q : RowOf L) × Decides (r ∷ table) q × (q.number ≡ number) × (q.leaves ≡ leaves)
      go true h e ih = (r, record { earlier = []; later = table; place = refl; before = tt; this = h }, cc, cc)
      go false h e ih =
          let w = ih e in
          let d = w.1 in
          (w.0, record { earlier = r ∷ d.earlier; later = d.later; place = ap (λ (l : List (RowOf L)). r ∷ l) d.place; before = (h, d.before); this = d.this }, w.2, w.3)

  -- what every row of a table leaves, a refusal by it leaves
  pub every_row : (P : L → Type 0) (table : List (RowOf L)) (number : ℕ) (leaves : L) → Each (λ (r : RowOf L). P r.leaves) table → verdict table ≡ refuse number leaves → P leaves
  unfolding verdict
  every_row P [] number leaves rows e = absurd (let z : ◌≡◌ {A = ℕ} 0 1 = cc in omega arith)
  every_row P (r ∷ table) number leaves rows e = go r.holds e (every_row P table number leaves rows.1)
    where
      go : (b : Bool) → cond b (refuse r.number r.leaves) (verdict table) ≡ refuse number leaves → (verdict table ≡ refuse number leaves → P leaves) → P leaves
      go true e ih = let same : r.leaves ≡ leaves = cc in rw (← same) rows.0
      go false e ih = ih e

  -- an answer made from a verdict, where no two numbers are answered alike and an accepted call is answered otherwise:
  -- a number is answered exactly if a row of that number decides
  pub exactly : {Said : Type 0} (refused : ℕ → Said) → ((m n : ℕ) → refused m ≡ refused n → m ≡ n)
      → (says : VerdictOf L → Said)
      → ((number : ℕ) (leaves : L) → says (refuse number leaves) ≡ refused number)
      → ((number : ℕ) → says accept ≡ refused number → ⊥)
      → (table : List (RowOf L)) (number : ℕ)
      → (says (verdict table) ≡ refused number) ↔ ((r : RowOf L) × Decides table r × (r.number ≡ number))
  exactly refused one_number says refuses accepts table number = (λ s. to (verdict table) refl s, from)
    where
      to : (v : VerdictOf L) → verdict table ≡ v → says v ≡ refused number → (r : RowOf L) × Decides table r × (r.number ≡ number)
      to (refuse n leaves) e s =
          let d = decided table n leaves e in
          (d.0, d.1, d.2 ∙ one_number n number (sym (refuses n leaves) ∙ s))
      to accept e s = absurd (accepts number s)

      from : (r : RowOf L) × Decides table r × (r.number ≡ number) → says (verdict table) ≡ refused number
      from w = ap says (answered table w.0 w.1) ∙ (refuses w.0.number w.0.leaves ∙ ap refused w.2)

  -- accepted exactly if no row's test holds
  pub accepted : (table : List (RowOf L)) → none table → verdict table ≡ accept
  unfolding verdict none
  accepted [] n = refl
  accepted (r ∷ table) n = rw n.0 (accepted table n.1)

  pub none-held : (table : List (RowOf L)) → verdict table ≡ accept → none table
  unfolding verdict none
  none-held [] e = tt
  none-held (r ∷ table) e = go r.holds refl e (none-held table)
    where
      go : (b : Bool) → r.holds ≡ b → cond b (refuse r.number r.leaves) (verdict table) ≡ accept → (verdict table ≡ accept → none table) → (r.holds ≡ false) × none table
      go true h e ih = absurd (let z : ◌≡◌ {A = ℕ} 0 1 = cc in omega arith)
      go false h e ih = (h, ih e)

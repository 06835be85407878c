-- Tables made of tables: two joined, and rows that ask one thing more first.
use Prim.Native.Nat.{ℕ}
use mathlib.Core.Path.{◌≡◌, refl, ap, ◌∙◌}
use mathlib.Core.List.{List, [], ◌∷◌, ◌++◌}
use mathlib.Core.Bool.{Bool, true, false, cond}
use Rattle.tables.specs.Refusals.{RowOf, VerdictOf, refuse, accept, verdict, given, none}

module _ {L : Type 0} where
  -- the one verdict, and where that accepts, the other
  abbrev pub or_else : VerdictOf L → VerdictOf L → VerdictOf L
  or_else (refuse number leaves) v = refuse number leaves
  or_else accept v = v

  -- a table and then another: the verdict of the first, and where that accepts, of the second
  pub verdict-joined : (first second : List (RowOf L)) → verdict (first ++ second) ≡ or_else (verdict first) (verdict second)
  unfolding verdict
  verdict-joined [] second = refl
  verdict-joined (r ∷ first) second = go r.holds (verdict-joined first second)
    where
      go : (b : Bool) → verdict (first ++ second) ≡ or_else (verdict first) (verdict second)
          → cond b (refuse r.number r.leaves) (verdict (first ++ second)) ≡ or_else (cond b (refuse r.number r.leaves) (verdict first)) (verdict second)
      go true later = refl
      go false later = later

  pub joined-refuses : (first second : List (RowOf L)) (number : ℕ) (leaves : L) → verdict first ≡ refuse number leaves → verdict (first ++ second) ≡ refuse number leaves
  joined-refuses first second number leaves e = verdict-joined first second ∙ ap (λ (v : VerdictOf L). or_else v (verdict second)) e

  pub joined_passes : (first second : List (RowOf L)) → verdict first ≡ accept → verdict (first ++ second) ≡ verdict second
  joined_passes first second e = verdict-joined first second ∙ ap (λ (v : VerdictOf L). or_else v (verdict second)) e

  -- rows whose first question is answered yes are the rows; answered no, they accept
  pub given_true : (rows : List (RowOf L)) → verdict (given true rows) ≡ verdict rows
  unfolding verdict given
  given_true [] = refl
  given_true (r ∷ rows) = rw (given_true rows)

  pub given_false : (rows : List (RowOf L)) → verdict (given false rows) ≡ accept
  unfolding verdict given
  given_false [] = refl
  given_false (r ∷ rows) = given_false rows

  pub verdict-given : (asked : Bool) (rows : List (RowOf L)) → verdict (given asked rows) ≡ cond asked (verdict rows) accept
  verdict-given true rows = given_true rows
  verdict-given false rows = given_false rows

  -- two parts of which one is asked for: the one
  pub first_given : (first second : List (RowOf L)) → verdict (given true first ++ given false second) ≡ verdict first
  first_given first second = verdict-joined (given true first) (given false second) ∙ rw (given_true first, given_false second) (or_accept (verdict first))
    where
      or_accept : (v : VerdictOf L) → or_else v accept ≡ v
      or_accept (refuse number leaves) = refl
      or_accept accept = refl

  pub second_given : (first second : List (RowOf L)) → verdict (given false first ++ given true second) ≡ verdict second
  second_given first second = joined_passes (given false first) (given true second) (given_false first) ∙ given_true second

  -- where no row of the joined table holds, none of either part does
  pub none-joined : (first second : List (RowOf L)) → none (first ++ second) → none first × none second
  unfolding none
  none-joined [] second n = (tt, n)
  none-joined (r ∷ first) second n = let later = none-joined first second n.1 in ((n.0, later.0), later.1)

  pub none-given : (rows : List (RowOf L)) → none (given true rows) → none rows
  unfolding none given
  none-given [] n = tt
  none-given (r ∷ rows) n = (n.0, none-given rows n.1)

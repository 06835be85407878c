-- A refusal and its number determine each other: no two rows have one number, and each of the numbers 1 to 25 and 47 is that of a row.
use Prim.Native.Nat.{ℕ, ◌-◌, ◌≤◌, ◌<◌}
use mathlib.Core.Path.{◌≡◌, refl, ap, sym, ◌∙◌}
use mathlib.Core.List.{List, [], ◌∷◌}
use mathlib.Core.Bool.{cond}
use native.Mathlib.Omega.{arith}
use lib.Dec.{eqb}
use lib.ListN.{get_or}
use Rattle.std.specs.Prelude.{Result, Ok, Err, IsErrAnd}
use Rattle.refusals.specs.declared.Refusal.{Refusal}
use Rattle.refusals.specs.declared.Refusal.TheVariants as row
use Rattle.refusals.specs.Numbers.{row_number}

-- the rows 1 to 25, in their order
abbrev first_rows : List Refusal
first_rows = row.Short ∷ row.IdWidth ∷ row.OtherDevice ∷ row.Type ∷ row.Extended ∷ row.Form ∷ row.Size ∷ row.NotOpen ∷ row.PastRoom ∷ row.StreamsFull ∷ row.EndLength ∷ row.Buffer ∷ row.NoContext ∷ row.Pdu ∷ row.NoSegment ∷ row.Out ∷ row.Priority ∷ row.Mtu ∷ row.State ∷ row.Ssize ∷ row.SegmentLength ∷ row.PastLast ∷ row.OtherMessage ∷ row.Twice ∷ row.MessagesFull ∷ []

-- the row of a number; that of 47 where it is none of 1 to 25
unfoldable pub refusal_of : ℕ → Refusal
refusal_of n = cond (eqb n 0) row.WideId (get_or first_rows (n - 1) row.WideId)

pub back : (r : Refusal) → refusal_of (row_number r) ≡ r
unfolding refusal_of
back row.Short = refl
back row.IdWidth = refl
back row.OtherDevice = refl
back row.Type = refl
back row.Extended = refl
back row.Form = refl
back row.Size = refl
back row.NotOpen = refl
back row.PastRoom = refl
back row.StreamsFull = refl
back row.EndLength = refl
back row.Buffer = refl
back row.NoContext = refl
back row.Pdu = refl
back row.NoSegment = refl
back row.Out = refl
back row.Priority = refl
back row.Mtu = refl
back row.State = refl
back row.Ssize = refl
back row.SegmentLength = refl
back row.PastLast = refl
back row.OtherMessage = refl
back row.Twice = refl
back row.MessagesFull = refl
back row.WideId = refl

-- no two rows have one number
pub number_once : (a b : Refusal) → row_number a ≡ row_number b → a ≡ b
number_once a b e = sym (back a) ∙ (ap refusal_of e ∙ back b)

-- no row has the number 0, which says that none refuses
pub never_0 : (r : Refusal) → row_number r ≡ 0 → ⊥
unfolding refusal_of
never_0 r z =
    let is : row.WideId ≡ r = ap refusal_of (sym z) ∙ back r in
    let zero : row_number row.WideId ≡ 0 = ap row_number is ∙ z in
    omega arith

-- what `?` passes on is the refusal that came
pub passed_on : {A : Type 0} (r : Result A Refusal) (e : Refusal) → IsErrAnd r (λ (x : Refusal). x ≡ e) → r ≡ Err e
passed_on (Ok _) e h = absurd h
passed_on (Err x) e h = ap Err h

-- a number that is one of the table's
abbrev pub IsRow : ℕ → Type 0
IsRow n = row_number (refusal_of n) ≡ n

-- A table of refusals: rows of a number, a test and what is left; the first row whose test holds decides.
use Rattle.std.specs.Prelude.{ℕ, ◌≡◌, List, [], ◌∷◌, ◌++◌, Bool, true, false, cond, ◌&&◌}
use Rattle.lists.specs.Each.{Each}

-- the table's last column
pub data Leaves : Type 0 where
  -- state and every lent byte stay
  all : Leaves
  -- the flow's context is closed, all else stays
  flow_closed : Leaves
  -- all but the response: ERROR is written there
  all_error : Leaves
  -- all but the response: RETRY is written there
  all_retry : Leaves

-- a row; L is what its last column says
pub record RowOf (L : Type 0) : Type 0 where
  pub number : ℕ
  pub holds : Bool
  pub leaves : L

abbrev pub row : {L : Type 0} → ℕ → Bool → L → RowOf L
row number holds leaves = record { number = number; holds = holds; leaves = leaves }

abbrev pub Row : Type 0
Row = RowOf Leaves

pub data VerdictOf (L : Type 0) : Type 0 where
  refuse : ℕ → L → VerdictOf L
  accept : VerdictOf L

abbrev pub Verdict : Type 0
Verdict = VerdictOf Leaves

-- its number; 0: accepted
abbrev pub number_of : {L : Type 0} → VerdictOf L → ℕ
number_of (refuse number leaves) = number
number_of accept = 0

-- the first row whose test holds; none: accepted
unfoldable pub verdict : {L : Type 0} → List (RowOf L) → VerdictOf L
verdict [] = accept
verdict (r ∷ rs) = cond r.holds (refuse r.number r.leaves) (verdict rs)

-- what a call comes to: what the row that decides leaves, or what is done where no row's test holds
abbrev pub by_verdict : {L O : Type 0} → (refusing : ℕ → L → O) → (accepting : O) → VerdictOf L → O
by_verdict refusing accepting (refuse number leaves) = refusing number leaves
by_verdict refusing accepting accept = accepting

-- rows that ask one thing more first, as of a packet of that type
unfoldable pub given : {L : Type 0} → Bool → List (RowOf L) → List (RowOf L)
given asked [] = []
given asked (r ∷ rs) = row r.number (asked && r.holds) r.leaves ∷ given asked rs

-- no row's test holds
unfoldable pub none : {L : Type 0} → List (RowOf L) → Type 0
none {L} table = Each (λ (r : RowOf L). r.holds ≡ false) table

-- row r of the table decides: its test holds and no earlier row's does
pub record Decides {L : Type 0} (table : List (RowOf L)) (r : RowOf L) : Type 0 where
  pub earlier : List (RowOf L)
  pub later : List (RowOf L)
  pub place : table ≡ earlier ++ (r ∷ later)
  pub before : none earlier
  pub this : r.holds ≡ true

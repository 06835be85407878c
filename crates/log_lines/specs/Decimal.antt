-- Decimal numbers without leading zeros: the quotient by ten first, then the digit.
use Rattle.std.specs.Prelude.{ℕ, zero, suc, ◌+◌, ◌/◌, ◌%◌, List, [], ◌∷◌, ◌++◌, cond, ltb}

-- the code of a digit below ten
abbrev pub digit : ℕ → ℕ
digit d = 48 + d

-- at most so many digits
unfoldable pub decimal_in : ℕ → ℕ → List ℕ
decimal_in zero n = []
decimal_in (suc most) n = cond (ltb n 10) (digit n ∷ []) (decimal_in most (n / 10) ++ (digit (n % 10) ∷ []))

-- a number has no more digits than one more than itself
unfoldable pub decimal : ℕ → List ℕ
decimal n = decimal_in (suc n) n

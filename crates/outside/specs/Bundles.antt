-- A bundle: logs one behind the other, each a length of four bytes and the log.
use Rattle.std.specs.Prelude.{ℕ, ◌≡◌, ◌+◌, ◌<◌, Option, MatchOption, List, ◌++◌, length, take}
use Rattle.lists.specs.Bytes.{long}

-- it does not have the bytes that its first log's length says: that log is cut, or there is none
abbrev pub IsCut : List ℕ → Type 0
IsCut bundle = length bundle < 4 + long bundle 0

-- it is this log behind its length, and then the rest
abbrev pub IsLogAndRest : List ℕ → List ℕ → List ℕ → Type 0
IsLogAndRest bundle log rest = (length log ≡ long bundle 0) × (bundle ≡ take 4 bundle ++ log ++ rest)

-- A list of words as a table of rows, for every width of a row; records kept as such rows.
use Rattle.std.specs.Prelude.{ℕ, zero, suc, List, [], ◌∷◌, ◌++◌, map, take, drop}

-- the first `count` rows of `width` words each
unfoldable pub rows : ℕ → ℕ → List ℕ → List (List ℕ)
rows width zero words = []
rows width (suc count) words = take width words ∷ rows width count (drop width words)

-- and back
unfoldable pub joined : List (List ℕ) → List ℕ
joined [] = []
joined (row ∷ others) = row ++ joined others

-- `count` records of `width` words each, the first of them at word `first`; `from` makes a record of its words
abbrev pub records_at : {A : Type 0} → (List ℕ → A) → ℕ → ℕ → ℕ → List ℕ → List A
records_at from width count first words = map from (rows width count (drop first words))

-- What a call on the state says, and the words of the state that it leaves.
use Rattle.std.specs.Prelude.{ℕ, List}

-- an answer and the words it leaves
pub record Stands (S : Type 0) : Type 0 where
  pub says : S
  pub words : List ℕ

abbrev pub stands : {S : Type 0} → S → List ℕ → Stands S
stands says words = record { says = says; words = words }

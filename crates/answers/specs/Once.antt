-- Determinism: any two outcomes that a promise allows are one.
use Rattle.std.specs.Prelude.{◌≡◌}

-- an outcome: what a call answers, and everything that it was lent to write, as it is left
pub record Outcome (Answer After : Type 0) : Type 0 where
  pub answer : Answer
  pub after : After

-- of the outcomes that are allowed, any two are one
abbrev pub OneOutcome : {Out : Type 0} → (Out → Type 0) → Type 0
OneOutcome {Out = Out} allowed = (y z : Out) → allowed y → allowed z → y ≡ z

-- a promise allows one outcome for each input
abbrev pub Once : {In Out : Type 0} → (In → Out → Type 0) → Type 0
Once {In = In} promise = (x : In) → OneOutcome (promise x)

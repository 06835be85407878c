-- A reading by its parts: the answer, whether the packet closed an open stream context undelivered, and how many bytes of response were written.
use Rattle.std.specs.Prelude.{ℕ, Bool, Result}
use Rattle.answers.specs.declared.Answer.{Answer}
use Rattle.answers.specs.declared.Reading.{Reading}

abbrev pub reading_of : {R : Type 0} → Result Answer R → Bool → ℕ → Reading R
reading_of answer dropped response = record { answer = answer; dropped = dropped; response = response }

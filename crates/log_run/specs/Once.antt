-- Any two outcomes that a promise about the log allows are one: the answer, the desk (the state, both memories, the response) and
-- every byte of the buffer. For the reader that holds its log: crates/log_reader/specs/Once.antt.
use Rattle.std.specs.Prelude.{ℕ, ◌≡◌, List}
use Rattle.answers.specs.declared.Reading.{Reading}
use Rattle.reading.specs.Desk.{Desk}
use Rattle.log_records.specs.Records.{Found, NextRecordPromise}
use Rattle.log_lines.specs.Puts.{WriteLinePromise, WriteEndPromise, WriteBadPromise}
use Rattle.log_pieces.specs.declared.Piece.{Piece}
use Rattle.log_run.specs.declared.Ran.{Ran}
use Rattle.log_pieces.specs.Printing.{LinePromise}
use Rattle.log_run.specs.Running.{LogRunPromise}

abbrev pub NextRecordOnce : Type 0
NextRecordOnce = (log : List ℕ) (at : ℕ) (r r' : Found) → NextRecordPromise log at r → NextRecordPromise log at r' → r ≡ r'

-- of whatever refuses, by its number
abbrev pub WriteLineOnce : Type 1
WriteLineOnce =
    (R : Type 0) (number_of : R → ℕ) (out : List ℕ) (reading : Reading R) (r r' : ℕ) (after after' : List ℕ)
    → WriteLinePromise number_of out reading r after
    → WriteLinePromise number_of out reading r' after'
    → (r ≡ r') × (after ≡ after')

abbrev pub WriteEndOnce : Type 0
WriteEndOnce =
    (out : List ℕ) (count r r' : ℕ) (after after' : List ℕ)
    → WriteEndPromise out count r after
    → WriteEndPromise out count r' after'
    → (r ≡ r') × (after ≡ after')

abbrev pub WriteBadOnce : Type 0
WriteBadOnce = (out : List ℕ) (r r' : ℕ) (after after' : List ℕ) → WriteBadPromise out r after → WriteBadPromise out r' after' → (r ≡ r') × (after ≡ after')

abbrev pub NextLineOnce : Type 0
NextLineOnce =
    (b : Desk) (log : List ℕ) (at count : ℕ) (line : List ℕ) (r r' : Piece) (after after' : Desk) (line₁ line₂ : List ℕ)
    → LinePromise b log at count line r after line₁
    → LinePromise b log at count line r' after' line₂
    → (r ≡ r') × (after ≡ after') × (line₁ ≡ line₂)

abbrev pub LogRunOnce : Type 0
LogRunOnce =
    (b : Desk) (log : List ℕ) (at count : ℕ) (out : List ℕ) (r r' : Ran) (after after' : Desk) (out₁ out₂ : List ℕ)
    → LogRunPromise b log at count out r after out₁
    → LogRunPromise b log at count out r' after' out₂
    → (r ≡ r') × (after ≡ after') × (out₁ ≡ out₂)

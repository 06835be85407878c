-- Any two outcomes that a promise of the log reader allows are one: the answer, and the reader that is left.
use Rattle.std.specs.Prelude.{ℕ, ◌≡◌, List}
use Rattle.std.specs.Borrow.{Bor}
use Rattle.log_records.specs.Records.{Found}
use Rattle.log_reader.specs.declared.LogReader.{LogReader}
use Rattle.log_reader.specs.Reader.{NewReaderPromise, PlacePromise, MovedPromise, FoundPromise, PlaceBehindPromise, NextPromise, RecordAtPromise, PlaceAfterPromise, CountRecordsPromise}

abbrev pub NewReaderOnce : Type 0
NewReaderOnce = (log : Bor (List ℕ)) (r r' : LogReader) → NewReaderPromise log r → NewReaderPromise log r' → r ≡ r'

abbrev pub PlaceOnce : Type 0
PlaceOnce = (reader : LogReader) (r r' : ℕ) → PlacePromise reader r → PlacePromise reader r' → r ≡ r'

abbrev pub MovedOnce : Type 0
MovedOnce = (reader : LogReader) (at : ℕ) (r r' : LogReader) → MovedPromise reader at r → MovedPromise reader at r' → r ≡ r'

abbrev pub FoundOnce : Type 0
FoundOnce = (reader : LogReader) (r r' : Found) → FoundPromise reader r → FoundPromise reader r' → r ≡ r'

abbrev pub PlaceBehindOnce : Type 0
PlaceBehindOnce = (found : Found) (at r r' : ℕ) → PlaceBehindPromise found at r → PlaceBehindPromise found at r' → r ≡ r'

abbrev pub NextOnce : Type 0
NextOnce = (reader : LogReader) (r r' : Found) (after after' : LogReader) → NextPromise reader r after → NextPromise reader r' after' → (r ≡ r') × (after ≡ after')

abbrev pub RecordAtOnce : Type 0
RecordAtOnce = (log : List ℕ) (at : ℕ) (r r' : Found) → RecordAtPromise log at r → RecordAtPromise log at r' → r ≡ r'

abbrev pub PlaceAfterOnce : Type 0
PlaceAfterOnce = (log : List ℕ) (at r r' : ℕ) → PlaceAfterPromise log at r → PlaceAfterPromise log at r' → r ≡ r'

abbrev pub CountRecordsOnce : Type 0
CountRecordsOnce = (log : List ℕ) (r r' : ℕ) → CountRecordsPromise log r → CountRecordsPromise log r' → r ≡ r'

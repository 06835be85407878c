-- What a log reader does: where it stands, what it finds there, where it moves, and how many records a log has.
use Rattle.std.specs.Prelude.{ℕ, ◌≡◌, List, length, Ok, Err, Some, None}
use Rattle.std.specs.Borrow.{Bor}
use Rattle.log_records.specs.Records.{Found, next_record, records_of}
use Rattle.log_reader.specs.declared.LogReader.{LogReader}

-- a reader of that log at that place
abbrev pub reader_at : Bor (List ℕ) → ℕ → LogReader
reader_at log at = record { log = log; at = at }

-- the record at the reader's place
abbrev pub found_by : LogReader → Found
found_by reader = next_record reader.log.now reader.at

-- behind a record; at the end, and where the log is bad, the place stays
abbrev pub place_behind : Found → ℕ → ℕ
place_behind (Ok (Some r)) at = r.next
place_behind (Ok None) at = at
place_behind (Err _) at = at

-- the same log, at the place behind what was found
abbrev pub moved_on : LogReader → LogReader
moved_on reader = reader_at reader.log (place_behind (found_by reader) reader.at)

-- the records of a log up to its end or to where it is bad, counted
unfoldable pub count_of : List ℕ → ℕ
count_of log = length (records_of log).packets

-- ---- what the calls promise

abbrev pub NewReaderPromise : Bor (List ℕ) → LogReader → Type 0
NewReaderPromise log r = r ≡ reader_at log 0

abbrev pub PlacePromise : LogReader → ℕ → Type 0
PlacePromise reader r = r ≡ reader.at

abbrev pub MovedPromise : LogReader → ℕ → LogReader → Type 0
MovedPromise reader at r = r ≡ reader_at reader.log at

abbrev pub FoundPromise : LogReader → Found → Type 0
FoundPromise reader r = r ≡ found_by reader

abbrev pub PlaceBehindPromise : Found → ℕ → ℕ → Type 0
PlaceBehindPromise found at r = r ≡ place_behind found at

abbrev pub NextPromise : LogReader → Found → LogReader → Type 0
NextPromise reader r after = (r ≡ found_by reader) × (after ≡ moved_on reader)

abbrev pub RecordAtPromise : List ℕ → ℕ → Found → Type 0
RecordAtPromise log at r = r ≡ next_record log at

abbrev pub PlaceAfterPromise : List ℕ → ℕ → ℕ → Type 0
PlaceAfterPromise log at r = r ≡ place_behind (next_record log at) at

abbrev pub CountRecordsPromise : List ℕ → ℕ → Type 0
CountRecordsPromise log r = r ≡ count_of log

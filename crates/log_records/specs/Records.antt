-- A log is records, each a length and that many packet bytes (document 01, 'The log program').
use Rattle.std.specs.Prelude.{ℕ, zero, suc, ◌+◌, ◌-◌, ◌*◌, ◌≡◌, List, [], ◌∷◌, Bool, true, false, cond, length, take, drop, eqb, ltb, Result, Ok, Err, Option, Some, None}
use Rattle.lists.specs.Bytes.{byte}
use Rattle.log_records.specs.declared.Record.{Record}
use Rattle.log_records.specs.declared.BadLog.{BadLog}

-- a record's packet begins at `from` and has `size` bytes, and behind it is the place `next`
abbrev pub record_of : ℕ → ℕ → ℕ → Record
record_of from size next = record { from = from; size = size; next = next }

abbrev pub unreadable : BadLog
unreadable = record {}

-- in a log of n bytes, the record whose packet has `size` bytes from `from` on; a cut record is bad
unfoldable pub record_from : ℕ → ℕ → ℕ → Result Record BadLog
record_from n from size = cond (ltb (n - from) size) (Err unreadable) (Ok (record_of from size (from + size)))

-- lengths are in groups of seven bits, lowest group first, top bit set on all but the last byte, at most two bytes,
-- a second byte never 0; a cut length is bad
unfoldable pub long_record : List ℕ → ℕ → Result Record BadLog
long_record log at =
    cond (ltb (length log) (at + 2)) (Err unreadable)
    (cond (eqb (byte log (at + 1)) 0) (Err unreadable)
    (cond (ltb 127 (byte log (at + 1))) (Err unreadable)
    (record_from (length log) (at + 2) (byte log at - 128 + 128 * byte log (at + 1)))))

-- the record at a place before the log's end
unfoldable pub record_within : List ℕ → ℕ → Result Record BadLog
record_within log at = cond (ltb (byte log at) 128) (record_from (length log) (at + 1) (byte log at)) (long_record log at)

-- what stands at a place of a log: a record, its end (`None`), or nothing that can be read
abbrev pub Found : Type 0
Found = Result (Option Record) BadLog

abbrev pub found_record : Result Record BadLog → Found
found_record (Ok r) = Ok (Some r)
found_record (Err e) = Err e

-- the record at a place of the log, or its end
unfoldable pub next_record : List ℕ → ℕ → Found
next_record log at = cond (ltb at (length log)) (found_record (record_within log at)) (Ok None)

-- what `next_record` promises
abbrev pub NextRecordPromise : List ℕ → ℕ → Found → Type 0
NextRecordPromise log at r = r ≡ next_record log at

-- the packets of a log up to its end or to where it is bad, and whether it ends clean
pub record Records : Type 0 where
  pub packets : List (List ℕ)
  pub clean : Bool

abbrev pub records : List (List ℕ) → Bool → Records
records packets clean = record { packets = packets; clean = clean }

abbrev pub before : List ℕ → Records → Records
before packet r = records (packet ∷ r.packets) r.clean

-- by what stands at a place; the records behind it by `behind`
abbrev pub by_next : List ℕ → (ℕ → Records) → Found → Records
by_next log behind (Ok (Some r)) = before (take r.size (drop r.from log)) (behind r.next)
by_next log behind (Ok None) = records [] true
by_next log behind (Err _) = records [] false

-- the records from a place on, at most `most` of them
unfoldable pub records_from : ℕ → List ℕ → ℕ → Records
records_from zero log at = records [] false
records_from (suc most) log at = by_next log (records_from most log) (next_record log at)

-- a record takes a byte at least, so a log has no more records than bytes
unfoldable pub records_of : List ℕ → Records
records_of log = records_from (suc (length log)) log 0

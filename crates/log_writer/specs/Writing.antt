-- Writing one record of a log, or of a burst: what is refused, what is written, and that it reads back.
-- How a record is written, to the byte, is `written_record` (log_records/specs/Written.antt).
use Rattle.std.specs.Prelude.{ℕ, ◌+◌, ◌≤◌, ◌≡◌, List, [], ◌∷◌, cond, length, take, drop, ltb, Result, Ok, Some}
use Rattle.refusals.specs.declared.Refusal.{Refusal}
use Rattle.answers.specs.Answers.{wrote, said_of_writer}
use Rattle.answers.specs.Once.{Outcome, OneOutcome}
use Rattle.tables.specs.Refusals.{Row, row, all, verdict}
use Rattle.writing.specs.Writer.{Wrote, wrote_of, wrote_by}
use Rattle.log_records.specs.Records.{record_of, next_record}
use Rattle.log_records.specs.Written.{length_bytes, written_record, AllShort}

-- the longest packet whose length two groups of seven bits can say
abbrev pub longest_recorded : ℕ
longest_recorded = 16383

-- in order: 12 the packet is too long for a record, a lent buffer of the wrong size; 16 the output is shorter than the record
unfoldable pub record_table : List ℕ → List ℕ → List Row
record_table out packet =
    row 12 (ltb longest_recorded (length packet)) all
    ∷ row 16 (ltb (length out) (length (written_record packet))) all
    ∷ []

-- success answers the record's length and changes only its bytes; a refusal changes none
unfoldable pub recording : List ℕ → List ℕ → Wrote
recording out packet = wrote_by out (written_record packet) (verdict (record_table out packet))

-- the bytes of the record of a packet of that many; 0 where the writer would refuse the packet
unfoldable pub record_length : ℕ → ℕ
record_length size = cond (ltb longest_recorded size) 0 (length (length_bytes size) + size)

-- the promise of `write_record`
abbrev pub WriteRecordPromise : List ℕ → List ℕ → Result ℕ Refusal → List ℕ → Type 0
WriteRecordPromise out packet r after = wrote_of (said_of_writer r) after ≡ recording out packet

-- the promise of `record_length`
abbrev pub RecordLengthPromise : ℕ → ℕ → Type 0
RecordLengthPromise size r = r ≡ record_length size

-- each promise allows one outcome
abbrev pub WriteRecordOnce : Type 0
WriteRecordOnce = (out packet : List ℕ) → OneOutcome (λ (y : Outcome (Result ℕ Refusal) (List ℕ)). WriteRecordPromise out packet y.answer y.after)

abbrev pub RecordLengthOnce : Type 0
RecordLengthOnce = (size : ℕ) → OneOutcome (RecordLengthPromise size)

-- every packet that a log may hold is taken, where the output has room for its record
abbrev pub RecordTaken : Type 0
RecordTaken =
    (out packet : List ℕ) → AllShort (packet ∷ []) → record_length (length packet) ≤ length out → (recording out packet).says ≡ wrote (record_length (length packet))

-- what is written reads back: the record at the output's beginning is the packet's, which stands there, and the next begins where the answer says
abbrev pub RecordReadsBack : Type 0
RecordReadsBack =
    (out packet : List ℕ) (size : ℕ) → (recording out packet).says ≡ wrote size
    → (next_record (recording out packet).out 0 ≡ Ok (Some (record_of (length (length_bytes (length packet))) (length packet) size)))
    × (take (length packet) (drop (length (length_bytes (length packet))) (recording out packet).out) ≡ packet)

-- and it has the length that `record_length` says
abbrev pub RecordIsThatLong : Type 0
RecordIsThatLong = (out packet : List ℕ) (size : ℕ) → (recording out packet).says ≡ wrote size → record_length (length packet) ≡ size

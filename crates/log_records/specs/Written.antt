-- A log as it is written, and two theorems: it reads back, and a log that reads cleanly is written so.
use Rattle.std.specs.Prelude.{ℕ, ◌+◌, ◌/◌, ◌%◌, ◌<◌, ◌≡◌, List, [], ◌∷◌, ◌++◌, true, cond, length, ltb}
use Rattle.lists.specs.Bytes.{AreBytes}
use Rattle.lists.specs.Each.{Each}
use Rattle.log_records.specs.Records.{records, records_of}

-- a length below 16,384 in one byte or two
unfoldable pub length_bytes : ℕ → List ℕ
length_bytes n = cond (ltb n 128) (n ∷ []) ((n % 128 + 128) ∷ n / 128 ∷ [])

abbrev pub written_record : List ℕ → List ℕ
written_record packet = length_bytes (length packet) ++ packet

abbrev pub written_log : List (List ℕ) → List ℕ
written_log [] = []
written_log (packet ∷ packets) = written_record packet ++ written_log packets

-- every packet is short enough for a length of two bytes
abbrev pub AllShort : List (List ℕ) → Type 0
AllShort = Each (λ (packet : List ℕ). length packet < 16384)

-- a written log reads back as its records
abbrev pub LogReadsBack : Type 0
LogReadsBack = (packets : List (List ℕ)) → AllShort packets → records_of (written_log packets) ≡ records packets true

-- and there is no other: a log, bytes all, that reads cleanly is the written log of its records, which are short
abbrev pub LogIsWritten : Type 0
LogIsWritten =
    (log : List ℕ) → AreBytes log → (records_of log).clean ≡ true
    → (written_log (records_of log).packets ≡ log) × AllShort (records_of log).packets

-- A record that was written reads back. It stands at the output's beginning, before what was there behind it; and there `log_records` finds it.
use Rattle.std.specs.Prelude.{Ok, Some}
use Prim.Native.Nat.{ℕ, ◌+◌, ◌<◌, ◌≤◌}
use mathlib.Core.Path.{◌≡◌, refl, ap, sym, ◌∙◌}
use mathlib.Core.List.{List, [], ◌∷◌, ◌++◌, append_assoc}
use mathlib.Core.Bool.{Bool, true, false, false≢true}
use native.Mathlib.Omega.{arith}
use native.Mathlib.Nat.{zero-add}
use lib.Dec.{ltb}
use lib.ListN.{length, take, drop, length-append}
use borrow.Author.Tests.{le-ltb, ltb-false}
use Rattle.lists.specs.Bytes.{written}
use Rattle.lists.proofs.Written.{written_front}
use Rattle.answers.specs.Answers.{wrote}
use Rattle.tables.specs.Refusals.{row, all, verdict}
use Rattle.writing.specs.Writer.{wrote_by}
use Rattle.log_records.specs.Records.{record_of, next_record}
use Rattle.log_records.specs.Written.{length_bytes, written_record}
use Rattle.log_records.proofs.Back.{stands, packet_of_lem}
use Rattle.log_writer.specs.Writing.{longest_recorded, record_table, recording, record_length, RecordTaken, RecordReadsBack, RecordIsThatLong}

-- what was accepted
accepted : (out packet : List ℕ) (size : ℕ) → (recording out packet).says ≡ wrote size
    → (length packet ≤ longest_recorded) × (length (written_record packet) ≡ size) × ((recording out packet).out ≡ written out 0 (written_record packet))
unfolding recording record_table verdict
accepted out packet size = go (ltb longest_recorded (length packet)) refl (ltb (length out) (length (written_record packet)))
  where
    go : (long : Bool) → ltb longest_recorded (length packet) ≡ long → (short : Bool)
        → (wrote_by out (written_record packet) (verdict (row 12 long all ∷ row 16 short all ∷ []))).says ≡ wrote size
        → (length packet ≤ longest_recorded) × (length (written_record packet) ≡ size)
        × ((wrote_by out (written_record packet) (verdict (row 12 long all ∷ row 16 short all ∷ []))).out ≡ written out 0 (written_record packet))
    go true t short e = absurd (false≢true cc)
    go false t true e = absurd (false≢true cc)
    go false t false e = (ltb-false longest_recorded (length packet) t, cc, refl)

pub record_is_that_long : RecordIsThatLong
unfolding record_length
record_is_that_long out packet size e =
    let (fits, sized, left) = accepted out packet size e in
    rw (le-ltb longest_recorded (length packet) fits) (sym (length-append (length_bytes (length packet)) packet) ∙ sized)

pub record_taken : RecordTaken
unfolding recording record_table verdict record_length
record_taken out packet short room =
    let fits : length packet ≤ longest_recorded = omega (arith, short.0) in
    let sized : length (written_record packet) ≡ length (length_bytes (length packet)) + length packet = length-append (length_bytes (length packet)) packet in
    let long : ltb longest_recorded (length packet) ≡ false = le-ltb longest_recorded (length packet) fits in
    let enough : length (length_bytes (length packet)) + length packet ≤ length out = rw long at room in
    rw (long, le-ltb (length out) (length (written_record packet)) (omega (arith, sized, enough)), sized)

pub record_reads_back : RecordReadsBack
record_reads_back out packet size e =
    let (fits, sized, left) = accepted out packet size e in
    let bytes : List ℕ = length_bytes (length packet) in
    let rest : List ℕ = drop (length (written_record packet)) out in
    let is : (recording out packet).out ≡ bytes ++ (packet ++ rest) = left ∙ (written_front out (written_record packet) ∙ append_assoc bytes packet rest) in
    let small : length packet < 16384 = omega arith in
    let there : length bytes + length packet ≡ size = sym (length-append bytes packet) ∙ sized in
    let first : 0 + length bytes ≡ length bytes = zero-add (length bytes) in
    let found = stands [] packet rest small ∙ ap (λ (k : ℕ). Ok (Some (record_of k (length packet) (k + length packet)))) first in (
      ap (λ (l : List ℕ). next_record l 0) is ∙ (found ∙ ap (λ (k : ℕ). Ok (Some (record_of (length bytes) (length packet) k))) there),
      ap (λ (l : List ℕ). take (length packet) (drop (length bytes) l)) is
          ∙ (ap (λ (k : ℕ). take (length packet) (drop k (bytes ++ (packet ++ rest)))) (sym first) ∙ packet_of_lem [] bytes packet rest),
    )

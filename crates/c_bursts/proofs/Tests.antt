-- The test before a burst, rows 19 and 12; and the room that the lent buffers give.
use Prim.Native.Nat.{ℕ, ◌/◌}
use mathlib.Core.Path.{◌≡◌, ap, sym, ◌∙◌}
use mathlib.Core.List.{List}
use native.Mathlib.Omega.{arith}
use native.Mathlib.Nat.{min-le_left, min-le_right}
use lib.ListN.{length}
use Rattle.reading.specs.Desk.{Desk}
use Rattle.reading.specs.Table.{lent_refusal}
use Rattle.reading.proofs.Lent.{lent_refused, lent-passed}
use Rattle.c_reports.specs.Reports.{report_words}
use Rattle.c_bursts.specs.declared.Burst.{Burst}
use Rattle.c_bursts.specs.Bursts.{slot_bytes, run, Finished, finished, answering, refused_all, ran, room_for, burst_by, read_burst, BurstPromise}
use Rattle.c_bursts.specs.Inside.{Room}

-- the burst is refused as a whole
pub refuses : (pause : ℕ) (d : Desk) (reports burst : List ℕ) (number : ℕ) (answer : Burst) → number ≡ lent_refusal d → (number ≡ 0 → ⊥) → answer ≡ answering refused_all number 0 0
    → BurstPromise pause d reports burst answer d reports
unfolding read_burst
refuses pause d reports burst number answer e n a = ap (λ (x : Burst). finished x d reports) a ∙ sym (ap (burst_by pause d reports burst) (lent_refused d number e n))

-- it is not
pub accepted : (pause : ℕ) (d : Desk) (reports burst : List ℕ) (room : ℕ) (x : Finished) → lent_refusal d ≡ 0 → room ≡ room_for (length reports) (length d.response)
    → x ≡ ran pause room burst (run d reports 0 0) → x ≡ read_burst pause d reports burst
unfolding read_burst
accepted pause d reports burst room x p e f = f ∙ (ap (λ (n : ℕ). ran pause n burst (run d reports 0 0)) e ∙ sym (ap (burst_by pause d reports burst) (lent-passed d p)))

pub has_room : (d : Desk) (reports : List ℕ) → Room (run d reports 0 0) (room_for (length reports) (length d.response))
unfolding room_for
has_room d reports =
    let a = min-le_left (length reports / report_words) (length d.response / slot_bytes) in
    let b = min-le_right (length reports / report_words) (length d.response / slot_bytes) in
    record { replies = omega (arith, b); answers = omega (arith, a) }

-- Behind one packet of a burst that has room: the buffers keep their lengths, its report stands in its place, and the earlier ones stay.
use Prim.Native.Nat.{ℕ, suc, ◌*◌, ◌≤◌}
use mathlib.Core.Path.{◌≡◌, ◌∙◌}
use mathlib.Core.List.{List}
use native.Mathlib.Omega.{arith}
use lib.ListN.{length, take, drop, length-take, length-drop}
use Rattle.lists.proofs.Written.{length-written, take-before, part-written}
use Rattle.wire.proofs.Widths.{two_bytes}
use Rattle.responses.specs.Type13.{response_size}
use Rattle.contexts.specs.State.{ids_in}
use Rattle.reading.specs.Desk.{state_on}
use Rattle.reading.proofs.Response.{response_length}
use Rattle.c_reports.specs.Reports.{report_words, words_of_report}
use Rattle.c_bursts.specs.Bursts.{slot_bytes, Run, slot, lent_in, read_in, report_for, behind}
use Rattle.c_bursts.specs.Inside.{Room}

-- room for some packets is room for fewer
pub fewer : (r : Run) (room : ℕ) → Room r (suc room) → Room r 1
fewer r room space = record { replies = omega (arith, space.replies); answers = omega (arith, space.answers) }

module _ (r : Run) (p : List ℕ) (next : ℕ) (room : Room r 1) where
  -- the words of its report
  abbrev told : List ℕ
  told = words_of_report (report_for (read_in r p))

  pub slot-length : length (slot r.desk.response r.count) ≡ slot_bytes
  slot-length = simp (length-take, length-drop) (omega (arith, room.replies))

  -- a slot holds the response of either width
  pub slot-enough : response_size (ids_in (state_on r.desk)) ≤ length (slot r.desk.response r.count)
  slot-enough = omega (arith, slot-length, two_bytes (state_on r.desk).setup.narrow)

  pub same_responses : length (behind r p next).desk.response ≡ length r.desk.response
  same_responses =
      let size : length (read_in r p).desk.response ≡ slot_bytes = response_length (lent_in r p) slot-enough ∙ slot-length in
      length-written r.desk.response (read_in r p).desk.response (slot_bytes * r.count) (omega (arith, size, room.replies))

  pub same_reports : length (behind r p next).reports ≡ length r.reports
  same_reports = length-written r.reports told (report_words * r.count) (omega (arith, room.answers))

  pub report_placed : take report_words (drop (report_words * r.count) (behind r p next).reports) ≡ told
  report_placed = part-written r.reports told (report_words * r.count) (omega (arith, room.answers))

  pub earlier_kept : take (report_words * r.count) (behind r p next).reports ≡ take (report_words * r.count) r.reports
  earlier_kept = take-before r.reports told (report_words * r.count) (omega (arith, room.answers)) (report_words * r.count) (omega arith)

  pub more_room : (n : ℕ) → Room r (suc n) → Room (behind r p next) n
  more_room n space = record {
    replies = omega (arith, space.replies, same_responses);
    answers = omega (arith, space.answers, same_reports);
  }

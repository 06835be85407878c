-- One packet of a burst: its slot is a response buffer that row 12 allows, what reading leaves goes where the definition says, and the desk
-- stays fit.
use Prim.Native.Nat.{ℕ, ◌+◌, ◌-◌, ◌*◌, ◌<◌}
use mathlib.Core.Path.{◌≡◌, ap, ap₂, sym, ◌∙◌}
use mathlib.Core.List.{List, ◌++◌}
use native.Mathlib.Omega.{arith}
use lib.ListN.{length, get_or, take, drop, length-take, length-drop}
use lib.Seq.{drop-drop}
use borrow.Rule.Slice.PartMut.{mid_of, put_mid}
use Rattle.lists.specs.Bytes.{written}
use Rattle.lists.proofs.Written.{written_is}
use Rattle.refusals.specs.declared.Refusal.{Refusal}
use Rattle.answers.specs.declared.Reading.{Reading}
use Rattle.answers.specs.Answers.{said}
use Rattle.wire.specs.declared.Setup.{Setup}
use Rattle.wire.specs.Packet.{header}
use Rattle.wire.proofs.Widths.{two_bytes}
use Rattle.contexts.specs.State.{ids_in, stream_contexts}
use Rattle.reading.specs.Desk.{Desk, state_on, with_response}
use Rattle.reading.specs.Table.{lent}
use Rattle.reading.specs.Read.{Settled, settled, reading, ReadPromise}
use Rattle.reading.specs.Good.{StillGood}
use Rattle.reading.specs.Inside.{Fit, ReadyToRead}
use Rattle.reading.proofs.Kept.{stays_good}
use Rattle.c_reports.specs.declared.Report.{Report}
use Rattle.c_reports.specs.Reports.{report_of, report_words, words_of_report}
use Rattle.c_bursts.specs.Bursts.{slot_bytes, Run, run, slot, lent_in, read_in, answers_placed}
use Rattle.c_bursts.specs.Inside.{ReadyToRun, PacketPromise}

-- a part of as many bytes, put back
put_back : (memory part : List ℕ) (at k : ℕ) → length part ≡ k → put_mid at k memory part ≡ written memory at part
put_back memory part at k e = rw (written_is) (ap (λ (l : List ℕ). take at memory ++ (part ++ l)) (drop-drop k at memory ∙ ap (λ (n : ℕ). drop (at + n) memory) (sym e)))

module _ (r : Run) (ready : ReadyToRun r 1) where
  -- the bytes from the slot's place to its end
  abbrev size : ℕ
  size = slot_bytes * r.count + slot_bytes - slot_bytes * r.count

  size_is : size ≡ slot_bytes
  size_is = omega arith

  -- the slot as it is lent, and the desk with it
  abbrev lent_slot : List ℕ
  lent_slot = mid_of (slot_bytes * r.count) size r.desk.response

  abbrev lent_desk : Desk
  lent_desk = with_response r.desk lent_slot

  slot_is : lent_slot ≡ slot r.desk.response r.count
  slot_is = ap (λ (k : ℕ). take k (drop (slot_bytes * r.count) r.desk.response)) size_is

  slot-length : length lent_slot ≡ slot_bytes
  slot-length = ap length slot_is ∙ simp (length-take, length-drop) (omega (arith, ready.space.replies))

  -- so with the slot the desk is ready: a slot holds the response of either width
  pub slot-ready : ReadyToRead lent_desk
  slot-ready = record {
    fit = record { whole = ready.fit.whole; good = ready.fit.good; rooms = ready.fit.rooms; boxes = ready.fit.boxes };
    reply = omega (arith, slot-length, two_bytes (state_on r.desk).setup.narrow);
  }

  -- what reading left: in its memories, in its slot, and with the report beside it
  module _ (packet : List ℕ) (small : get_or packet (header (ids_in (state_on r.desk))) 0 < 256) (t : Reading Refusal) (after : Desk) (promise : ReadPromise (lent lent_desk packet) t after) where
    as_defined : settled (said t.answer) t.dropped t.response after ≡ read_in r packet
    as_defined = promise ∙ ap (λ (s : List ℕ). reading (lent (with_response r.desk s) packet)) slot_is

    still-good : StillGood (state_on r.desk) after.words
    still-good = rw (ap (λ (l : Settled). l.desk.words) as_defined) (stays_good (lent_in r packet) ready.fit.whole ready.fit.good small)

    module _ (streams : length after.stream_memory ≡ length r.desk.stream_memory) (messages : length after.message_memory ≡ length r.desk.message_memory) where
      still_fit : (response : List ℕ) → Fit (with_response after response)
      still_fit response = record {
        whole = still-good.whole;
        good = still-good.good;
        rooms = streams ∙ ready.fit.rooms ∙ ap (λ (f : Setup). stream_contexts * f.room) (sym still-good.setup);
        boxes = messages ∙ ready.fit.boxes;
      }

      pub packet-read : length after.response ≡ length lent_slot
          → (report : Report) (reports : List ℕ) → report ≡ report_of (said t.answer) t.dropped t.response → reports ≡ written r.reports (report_words * r.count) (words_of_report report)
          → PacketPromise r packet t.answer (with_response after (put_mid (slot_bytes * r.count) size r.desk.response after.response)) reports
      packet-read slot report reports e f = record {
        leaves =
            ap₂ (λ (a b : List ℕ). run (with_response after a) b (r.count + 1) r.next)
            (put_back r.desk.response after.response (slot_bytes * r.count) size (slot ∙ slot-length ∙ sym size_is))
            (f ∙ ap (λ (w : Report). written r.reports (report_words * r.count) (words_of_report w)) e)
            ∙ ap (answers_placed r r.next) as_defined;
        reported = ap (λ (l : Settled). l.says) as_defined;
        fit = still_fit _;
      }

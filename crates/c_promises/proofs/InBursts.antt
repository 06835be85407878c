-- A burst is calls one after another, each with its slot as the response buffer: by induction over the packets. Later packets leave the reports of
-- earlier ones, and a report names what its packet delivers.
use Prim.Native.Nat.{ℕ, ◌+◌, ◌*◌, ◌≤◌}
use mathlib.Core.Path.{◌≡◌, refl, ap, ap₂, sym, ◌∙◌, subst}
use mathlib.Core.List.{List, [], ◌∷◌, ◌++◌, map}
use mathlib.Core.Bool.{Bool}
use native.Mathlib.Omega.{arith}
use lib.ListN.{length, take, drop}
use lib.Seq.{take-add, take-take, drop_at, drop-drop, length-take-le}
use Rattle.lists.specs.Rows.{rows}
use Rattle.answers.specs.Answers.{Said, held, delivered, message, refused}
use Rattle.wire.specs.declared.Flow.{Flow}
use Rattle.reading.specs.Desk.{Desk, state_on}
use Rattle.reading.specs.Table.{Lent}
use Rattle.reading.specs.Read.{reading}
use Rattle.reading.proofs.Kept.{room-kept}
use Rattle.reading.proofs.Spoken.{answered_by, promised}
use Rattle.c_reports.specs.declared.Report.{Report}
use Rattle.c_reports.specs.Reports.{report_of, report_words, report_in}
use Rattle.flows.specs.Deliveries.{Delivery, delivered_on, in_room}
use Rattle.sending.specs.Sending.{packets}
use Rattle.sending.proofs.Measured.{length_is_measured}
use Rattle.c_bursts.specs.Bursts.{Run, run, slot, lent_in, read_in, behind, Finished, answering, at_end}
use Rattle.c_bursts.specs.Inside.{Room}
use Rattle.c_bursts.proofs.Tests.{has_room}
use Rattle.calls.specs.Calls.{Fetches, none-held, none_message, none_refused, Reads, stop, call}
use Rattle.calls.proofs.Calls.{fetched_is_delivered}
use Rattle.demands.proofs.OfCalls.{demand3_of_calls}
use Rattle.c_promises.specs.OfCalls.{all_read_in, Name, name_of, names_in, reports_in, BurstReads, BurstIsReads, Demand3OfBursts}
use Rattle.c_promises.proofs.Whole.{burst_is_calls}
use Rattle.c_promises.proofs.FromC.{room-made, other_buffer, after_answer, set_up}
use Rattle.c_promises.proofs.Behind.{fewer, slot-enough, same_reports, report_placed, earlier_kept, more_room}

-- ---- the name in a report

-- the length in an answer is that of the bytes
abbrev Measured : Desk → Said → Type 0
Measured d says = (context : ℕ) (flow : Flow) (stream size : ℕ) → says ≡ delivered context flow stream size → length (in_room (state_on d).setup.room d.stream_memory context size) ≡ size

module _ (d : Desk) (dropped : Bool) (replied : ℕ) (rest : List Report) (ds : List Delivery) (e : names_in rest ≡ map name_of ds) where
  names-row : (says : Said) → Measured d says → names_in (report_of says dropped replied ∷ rest) ≡ map name_of (delivered_on d says ++ ds)
  unfolding report_of
  names-row held m = e
  names-row (delivered context flow stream size) m =
      ap₂ (λ (n : ℕ) (l : List Name). record { flow = flow; stream = stream; size = n } ∷ l) (sym (m context flow stream size refl)) e
  names-row (message context source letter mailbox size) m = e
  names-row (refused number) m = e

measured : (x : Lent) → Measured (reading x).desk (reading x).says
measured x context flow stream size e =
    ap (λ (R : ℕ). length (in_room R (reading x).desk.stream_memory context size)) (room-kept x) ∙ length_is_measured x.desk x.packet context flow stream size e

-- ---- packet by packet

-- where the first a + n are the same, so are the n behind a
part_same : (a n : ℕ) (l m : List ℕ) → a ≤ length l → a ≤ length m → take (a + n) l ≡ take (a + n) m → take n (drop a l) ≡ take n (drop a m)
part_same a n l m h g e =
    sym (drop_at (take a l) (take n (drop a l)) a (length-take-le a l h))
    ∙ (ap (drop a) (sym (take-add a n l) ∙ (e ∙ take-add a n m))
    ∙ drop_at (take a m) (take n (drop a m)) a (length-take-le a m g))

-- after every answer a caller can fetch; and it fetches what is delivered
fetch_made : (d : Desk) (says : Said) → (fetched : List Delivery) × Fetches d says fetched
fetch_made d held = (_, none-held)
fetch_made d (delivered context flow stream size) = (_, room-made d context flow stream size _ refl)
fetch_made d (message context source letter mailbox size) = (_, none_message)
fetch_made d (refused number) = (_, none_refused)

fetch_delivered : (x : Lent) → Fetches (reading x).desk (reading x).says (delivered_on (reading x).desk (reading x).says)
fetch_delivered x =
    let m = fetch_made (reading x).desk (reading x).says in
    subst (Fetches (reading x).desk (reading x).says) (fetched_is_delivered x.desk x.packet m.0 m.1) m.1

-- the call of one packet, with its slot as the response buffer
pub call_made : (r : Run) (p : List ℕ) (next : ℕ) → Room r 1 → {fetched : List Delivery} → Fetches (read_in r p).desk (read_in r p).says fetched
    → {ps : List (List ℕ)} {ds : List Delivery} → Reads (behind r p next).desk ps ds → Reads r.desk (p ∷ ps) (fetched ++ ds)
call_made r p next room fetch rest =
    let x : Lent = lent_in r p in
    call (answered_by x) (slot r.desk.response r.count) (slot-enough r p next room) (promised x)
    (after_answer x (read_in r p).desk fetch) (other_buffer (read_in r p).desk.response rest)

-- what is known of a run that goes on over these packets
record Chain (end : ℕ) (r : Run) (packets : List (List ℕ)) : Type 0 where
  ds : List Delivery
  reads : Reads r.desk packets ds
  count : (all_read_in end r packets).count ≡ r.count + length packets
  next : (all_read_in end r packets).next ≡ end
  size : length (all_read_in end r packets).reports ≡ length r.reports
  kept : take (report_words * r.count) (all_read_in end r packets).reports ≡ take (report_words * r.count) r.reports
  names : names_in (reports_in (length packets) (drop (report_words * r.count) (all_read_in end r packets).reports)) ≡ map name_of ds

chain : (end : ℕ) (packets : List (List ℕ)) (r : Run) → Room r (length packets) → Chain end r packets
unfolding rows
chain end [] r room = record { ds = []; reads = stop; count = omega arith; next = refl; size = refl; kept = refl; names = refl }
chain end (p ∷ ps) r room =
    let one = fewer r (length ps) room in
    let c : Chain end (behind r p end) ps = chain end ps (behind r p end) (more_room r p end one (length ps) room) in
    let last : List ℕ = (all_read_in end (behind r p end) ps).reports in
    let here : ℕ = report_words * r.count in
    let same = same_reports r p end one in
    let place : report_words * (r.count + 1) ≡ here + report_words = omega arith in
    let front : take (here + report_words) last ≡ take (here + report_words) (behind r p end).reports =
    subst (λ (k : ℕ). take k last ≡ take k (behind r p end).reports) place c.kept in
    let row = part_same here report_words last (behind r p end).reports (omega (arith, c.size, same, room.answers)) (omega (arith, same, room.answers)) front ∙ report_placed r p end one in
    let behind_it : drop report_words (drop here last) ≡ drop (report_words * (r.count + 1)) last =
    drop-drop report_words here last ∙ ap (λ (k : ℕ). drop k last) (sym place) in
    record {
      ds = delivered_on (read_in r p).desk (read_in r p).says ++ c.ds;
      reads = call_made r p end one (fetch_delivered (lent_in r p)) c.reads;
      count = omega (arith, c.count);
      next = c.next;
      size = c.size ∙ same;
      kept =
          sym (take-take here (here + report_words) last (omega arith))
          ∙ (ap (take here) front
          ∙ (take-take here (here + report_words) (behind r p end).reports (omega arith)
          ∙ earlier_kept r p end one));
      names =
          ap₂ (λ (a b : List ℕ). names_in (report_in a ∷ reports_in (length ps) b)) row behind_it
          ∙ names-row (read_in r p).desk (read_in r p).dropped (read_in r p).replied (reports_in (length ps) (drop (report_words * (r.count + 1)) last)) c.ds c.names
          (read_in r p).says (measured (lent_in r p));
    }

-- ---- the whole burst

pub burst_is_reads : BurstIsReads
burst_is_reads d reports burst packets answer after reports' w promise =
    let r : Run = run d reports 0 0 in
    let most = has_room d reports in
    let room : Room r (length packets) = record { replies = omega (arith, most.replies, w.room); answers = omega (arith, most.answers, w.room) } in
    let c : Chain (length burst) r packets = chain (length burst) packets r room in
    let e = promise ∙ burst_is_calls d reports burst packets w in
    let all : (all_read_in (length burst) r packets).count ≡ length packets = omega (arith, c.count) in (
      c.ds,
      record {
        all_read = ap (λ (f : Finished). f.answer) e ∙ ap₂ (λ (n k : ℕ). answering at_end 0 n k) all c.next;
        reads = c.reads;
        names = ap (λ (f : Finished). names_in (reports_in (length packets) f.reports)) e ∙ c.names;
      },
    )

pub demand3_of_bursts : Demand3OfBursts
demand3_of_bursts setup d s reports burst answer after reports' up fair w promise =
    let c = burst_is_reads d reports burst (packets setup s) answer after reports' w promise in
    subst (BurstReads d burst (packets setup s) answer reports')
    (demand3_of_calls setup d s c.0 (set_up up) fair.sent_fairly fair.one_loss fair.neighbours c.1.reads) c.1

-- Bursts with a pause are calls, one after another: a burst of written records reads some of them, none of which delivers but the last where it
-- stopped at a delivery; and what it leaves unread are the records of the others.
use Prim.Native.Nat.{ℕ, zero, suc, ◌+◌, ◌-◌}
use mathlib.Core.Path.{◌≡◌, refl, ap, ap₂, sym, ◌∙◌, subst}
use mathlib.Core.Logic.{◌⊎◌, inl, inr}
use mathlib.Core.List.{List, [], ◌∷◌, ◌++◌, append_assoc, append-nil}
use mathlib.Core.Bool.{Bool, true, false, cond}
use native.Mathlib.Omega.{arith}
use lib.Dec.{eqb}
use lib.ListN.{length, take, drop, length-append}
use lib.Seq.{drop_at}
use borrow.Author.Tests.{ne_eqb}
use Rattle.answers.specs.Answers.{Said, held, delivered, message, refused}
use Rattle.tables.specs.Refusals.{Verdict, refuse, accept}
use Rattle.reading.specs.Desk.{Desk, with_response}
use Rattle.std.specs.Prelude.{Ok, Some, None}
use Rattle.log_records.specs.declared.Record.{Record}
use Rattle.log_records.specs.Records.{record_of, next_record}
use Rattle.log_records.specs.Written.{length_bytes, written_log, AllShort}
use Rattle.log_records.proofs.Back.{stands, packet_of_lem, ended}
use Rattle.c_reports.specs.declared.Report.{Report}
use Rattle.c_reports.specs.Reports.{report_of, report_in}
use Rattle.flows.specs.Deliveries.{Delivery}
use Rattle.c_bursts.specs.Bursts.{Run, run, read_in, report_for, behind, kind_in, step_left, step_over, step_in, pause_of, at_end, is_full, at_delivery}
use Rattle.c_bursts.specs.Bursts.{Finished, stopped, ran, room_for, burst_verdict, burst_by, read_burst}
use Rattle.c_bursts.specs.Inside.{Room}
use Rattle.c_bursts.proofs.Steps.{at-end, at_full, over-packet, stops, goes_on}
use Rattle.c_bursts.proofs.Tests.{has_room}
use Rattle.calls.specs.Calls.{Fetches, none-held, none_message, none_refused, Reads, stop}
use Rattle.demands.proofs.OfCalls.{demand3_of_calls}
use Rattle.c_promises.specs.OfCalls as stated
use Rattle.c_promises.specs.OfCalls.{report_at, last_report, FetchesFromC, PausedCall, Bursts, PausedBurstsAreReads, Demand3OfPausedBursts}
use Rattle.c_promises.proofs.FromC.{other_buffer, fetched_from_c, set_up}
use Rattle.c_promises.proofs.Behind.{fewer, report_placed, more_room}
use Rattle.c_promises.proofs.InBursts.{call_made}

-- what is fetched after a call: what its last report names, where it stopped at a delivery
data Fetched (f : Finished) : List Delivery → Type 0 where
  at-delivery : {fetched : List Delivery} → f.answer.stop ≡ at_delivery → FetchesFromC f.desk (last_report f) fetched → Fetched f fetched
  elsewhere : (f.answer.stop ≡ at_delivery → ⊥) → Fetched f []

-- a burst that was read in part, from a desk on
record Part (burst : List ℕ) (d : Desk) (packets : List (List ℕ)) (f : Finished) : Type 0 where
  rest : List (List ℕ)
  short : AllShort rest
  unread : drop f.answer.next burst ≡ written_log rest
  none_left : f.answer.stop ≡ at_end → rest ≡ []
  reads : {fetched ds : List Delivery} → Fetched f fetched → Reads f.desk rest ds → Reads d packets (fetched ++ ds)

-- nothing was read, and nothing is fetched
untouched : {f : Finished} {d : Desk} {packets : List (List ℕ)} {fetched ds : List Delivery} → (f.answer.stop ≡ at_delivery → ⊥) → Fetched f fetched → Reads d packets ds
    → Reads d packets (fetched ++ ds)
untouched other (at-delivery there fetch) more = absurd (other there)
untouched other (elsewhere _) more = more

module _ (pause : ℕ) (asked : pause ≡ 0 → ⊥) where
  -- a burst goes on, or it stops at a delivery
  goes_or_stops : (kind : ℕ) → (pause_of pause kind ≡ 0) ⊎ (pause_of pause kind ≡ at_delivery)
  unfolding pause_of
  goes_or_stops kind = go (eqb pause 0) (eqb kind 2) (eqb kind 3)
    where
      go : (a b c : Bool) → (cond a 0 (cond b at_delivery (cond c at_delivery 0)) ≡ 0) ⊎ (cond a 0 (cond b at_delivery (cond c at_delivery 0)) ≡ at_delivery)
      go true b c = inl refl
      go false true c = inr refl
      go false false true = inr refl
      go false false false = inl refl

  -- where it goes on, there is nothing to fetch
  quiet : (d : Desk) (says : Said) (dropped : Bool) (replied : ℕ) → pause_of pause (report_of says dropped replied).kind ≡ 0 → Fetches d says []
  unfolding pause_of report_of
  quiet d held dropped replied e = none-held
  quiet d (delivered context flow stream size) dropped replied e =
      let z : at_delivery ≡ 0 = rw (ne_eqb pause 0 asked) at e in absurd (omega (arith, z))
  quiet d (message context source letter mailbox size) dropped replied e = none_message
  quiet d (refused number) dropped replied e = none_refused

  module _ (burst : List ℕ) where
    -- at the end of the records
    part_end : (room : ℕ) (front : List ℕ) (r : Run) → burst ≡ front ++ [] → r.next ≡ length front → Part burst r.desk [] (ran pause room burst r)
    part_end room front r e at =
        let all : burst ≡ front = e ∙ append-nil front in
        let there : next_record burst r.next ≡ Ok None = ap (next_record burst) (at ∙ ap length (sym all)) ∙ ended burst in
        subst (Part burst r.desk []) (stops pause room burst r (step_left at_end r) (at-end burst pause room r there) (λ z. omega (arith, z)))
        (record {
          rest = [];
          short = tt;
          unread = ap₂ drop at e ∙ drop_at front [] (length front) refl;
          none_left = λ z. refl;
          reads = λ fetch more. untouched (λ z. omega (arith, z)) fetch more;
        })

    module _ (p : List ℕ) (qs : List (List ℕ)) (front : List ℕ) (r : Run) (e : burst ≡ front ++ written_log (p ∷ qs)) (at : r.next ≡ length front) (short : AllShort (p ∷ qs)) where
      abbrev bytes : List ℕ
      bytes = length_bytes (length p)

      -- behind the packet
      abbrev further : List ℕ
      further = front ++ (bytes ++ p)

      abbrev from : ℕ
      from = length front + length bytes

      abbrev next : ℕ
      next = length front + length bytes + length p

      apart : burst ≡ front ++ (bytes ++ (p ++ written_log qs))
      apart = e ∙ ap (λ (l : List ℕ). front ++ l) (append_assoc bytes p (written_log qs))

      again : burst ≡ further ++ written_log qs
      again = e ∙ sym (append_assoc front (bytes ++ p) (written_log qs))

      place : next ≡ length further
      place = simp length-append (omega arith)

      -- its record
      abbrev own : Record
      own = record_of from (length p) next

      found : next_record burst r.next ≡ Ok (Some own)
      found = ap₂ next_record apart at ∙ stands front p (written_log qs) short.0

      packet-there : take (length p) (drop from burst) ≡ p
      packet-there = ap (λ (l : List ℕ). take (length p) (drop from l)) apart ∙ packet_of_lem front bytes p (written_log qs)

      -- no room for it
      part_full : Part burst r.desk (p ∷ qs) (ran pause 0 burst r)
      part_full =
          subst (Part burst r.desk (p ∷ qs)) (stops pause 0 burst r (step_left is_full r) (at_full burst pause 0 r own found refl) (λ z. omega (arith, z)))
          (record {
            rest = p ∷ qs;
            short = short;
            unread = ap₂ drop at e ∙ drop_at front (written_log (p ∷ qs)) (length front) refl;
            none_left = λ z. absurd (omega (arith, z));
            reads = λ fetch more. untouched (λ z. omega (arith, z)) fetch more;
          })

      module _ (room : ℕ) (space : Room r (suc room)) where
        step_is : step_over pause r p next ≡ step_in pause (suc room) burst r
        step_is = ap (λ (q : List ℕ). step_over pause r q next) (sym packet-there) ∙ over-packet burst pause (suc room) r own found (λ z. omega arith)

        -- it delivers: the burst stops
        part-stops : pause_of pause (kind_in r p) ≡ at_delivery → Part burst r.desk (p ∷ qs) (ran pause (suc room) burst r)
        part-stops k =
            subst (Part burst r.desk (p ∷ qs))
            (ap (λ (n : ℕ). stopped (step_left n (behind r p next))) (sym k) ∙ stops pause (suc room) burst r (step_over pause r p next) step_is (λ z. omega (arith, z, k)))
            (record {
              rest = qs;
              short = short.1;
              unread = ap₂ drop place again ∙ drop_at further (written_log qs) (length further) refl;
              none_left = λ z. absurd (omega (arith, z));
              reads = fetched-behind;
            })
          where
            one : Room r 1
            one = fewer r room space

            -- its report is the call's last
            told : report_at (behind r p next).reports (r.count + 1 - 1) ≡ report_for (read_in r p)
            told =
                let last : r.count + 1 - 1 ≡ r.count = omega arith in
                ap (report_at (behind r p next).reports) last ∙ ap report_in (report_placed r p next one)

            fetched-behind : {fetched ds : List Delivery} → Fetched (stopped (step_left at_delivery (behind r p next))) fetched → Reads (behind r p next).desk qs ds
                → Reads r.desk (p ∷ qs) (fetched ++ ds)
            fetched-behind (elsewhere other) more = absurd (other refl)
            fetched-behind (at-delivery {fetched = fetched} there fetch) more =
                call_made r p next one
                (fetched_from_c (read_in r p).desk (behind r p next).desk.response (read_in r p).says (read_in r p).dropped (read_in r p).replied
                (subst (λ (q : Report). FetchesFromC (behind r p next).desk q fetched) told fetch)) more

        -- it does not: the burst goes on behind it
        part_goes : pause_of pause (kind_in r p) ≡ 0 → Part burst (behind r p next).desk qs (ran pause room burst (behind r p next))
            → Part burst r.desk (p ∷ qs) (ran pause (suc room) burst r)
        part_goes k part =
            let less : suc room - 1 ≡ room = omega arith in
            subst (Part burst r.desk (p ∷ qs))
            (ap (λ (n : ℕ). ran pause n burst (behind r p next)) (sym less) ∙ goes_on pause (suc room) burst r (step_over pause r p next) step_is k)
            (record {
              rest = part.rest;
              short = part.short;
              unread = part.unread;
              none_left = part.none_left;
              reads = λ fetch more.
                  call_made r p next (fewer r room space) (quiet (read_in r p).desk (read_in r p).says (read_in r p).dropped (read_in r p).replied k) (part.reads fetch more);
            })

    part : (room : ℕ) (packets : List (List ℕ)) (front : List ℕ) (r : Run) → burst ≡ front ++ written_log packets → r.next ≡ length front → AllShort packets
        → Room r room → Part burst r.desk packets (ran pause room burst r)
    part room [] front r e at short space = part_end room front r e at
    part zero (p ∷ qs) front r e at short space = part_full p qs front r e at short
    part (suc room) (p ∷ qs) front r e at short space =
        let r' : Run = behind r p (length front + length (length_bytes (length p)) + length p) in
        let space' : Room r' room = more_room r p r'.next (fewer r room space) room space in
        go (goes_or_stops (kind_in r p)) (part room qs (front ++ (length_bytes (length p) ++ p)) r' (again p qs front r e at short) (place p qs front r e at short) short.1 space')
      where
        go : (pause_of pause (kind_in r p) ≡ 0) ⊎ (pause_of pause (kind_in r p) ≡ at_delivery)
            → Part burst (behind r p (length front + length (length_bytes (length p)) + length p)).desk qs
            (ran pause room burst (behind r p (length front + length (length_bytes (length p)) + length p)))
            → Part burst r.desk (p ∷ qs) (ran pause (suc room) burst r)
        go (inl k) later = part_goes p qs front r e at short room space k later
        go (inr k) later = part-stops p qs front r e at short room space k

    -- a call that was not refused
    call_part : (packets : List (List ℕ)) (d : Desk) (reports : List ℕ) → burst ≡ written_log packets → AllShort packets
        → ((read_burst pause d reports burst).answer.stop ≡ 0 → ⊥) → Part burst d packets (read_burst pause d reports burst)
    unfolding read_burst
    call_part packets d reports e short n = go (burst_verdict d) n
      where
        go : (v : Verdict) → ((burst_by pause d reports burst v).answer.stop ≡ 0 → ⊥) → Part burst d packets (burst_by pause d reports burst v)
        go (refuse number leaves) n = absurd (n refl)
        go accept n = part (room_for (length reports) (length d.response)) packets [] (run d reports 0 0) e refl short (has_room d reports)

-- a call by what it promised; the desk's own response buffer is not looked at
called : {d : Desk} {burst : List ℕ} {f : Finished} → PausedCall d burst f → (packets : List (List ℕ)) → burst ≡ written_log packets → AllShort packets
    → (f.answer.stop ≡ 0 → ⊥) → Part burst d packets f
called {d = d} {burst = burst} {f = f} c packets e short n =
    let p : Part burst (with_response d c.responses) packets f =
    subst (Part burst (with_response d c.responses) packets) (sym c.promised)
    (call_part c.pause c.asked burst packets (with_response d c.responses) c.reports e short (λ z. n (ap (λ (g : Finished). g.answer.stop) c.promised ∙ z))) in
    record { rest = p.rest; short = p.short; unread = p.unread; none_left = p.none_left; reads = λ fetch more. other_buffer d.response (p.reads fetch more) }

are_reads : {d : Desk} {burst : List ℕ} {ds : List Delivery} → Bursts d burst ds → (packets : List (List ℕ)) → burst ≡ written_log packets → AllShort packets → Reads d packets ds
are_reads (stated.ended f c halt) packets e short =
    let p = called c packets e short (λ z. omega (arith, z, halt)) in
    p.reads (elsewhere (λ z. omega (arith, z, halt))) (subst (λ (l : List (List ℕ)). Reads f.desk l []) (sym (p.none_left halt)) stop)
are_reads (stated.full f c halt more) packets e short =
    let p = called c packets e short (λ z. omega (arith, z, halt)) in
    p.reads (elsewhere (λ z. omega (arith, z, halt))) (are_reads more p.rest p.unread p.short)
are_reads (stated.paused f c halt fetch more) packets e short =
    let p = called c packets e short (λ z. omega (arith, z, halt)) in
    p.reads (at-delivery halt fetch) (are_reads more p.rest p.unread p.short)

pub paused_bursts_are_reads : PausedBurstsAreReads
paused_bursts_are_reads d packets ds short bursts = are_reads bursts packets refl short

pub demand3_of_paused_bursts : Demand3OfPausedBursts
demand3_of_paused_bursts setup d s ds up fair short bursts =
    demand3_of_calls setup d s ds (set_up up) fair.sent_fairly fair.one_loss fair.neighbours (are_reads bursts _ refl short)

-- A burst of whole records is read to its end: by induction over the records, a step for each.
use Prim.Native.Nat.{ℕ, zero, suc, ◌-◌, ◌≤◌}
use mathlib.Core.Path.{◌≡◌, refl, ap, sym, ◌∙◌}
use mathlib.Core.List.{List, [], ◌∷◌}
use mathlib.Core.Bool.{Bool, true, false, cond, false≢true}
use native.Mathlib.Omega.{arith}
use lib.Dec.{ltb}
use lib.ListN.{length, take, drop}
use borrow.Author.Tests.{ltb-false}
use Rattle.std.specs.Prelude.{Result, Ok, Err, Some, None}
use Rattle.log_records.specs.declared.Record.{Record}
use Rattle.log_records.specs.declared.BadLog.{BadLog}
use Rattle.log_records.specs.Records.{Found, found_record, Records, records, by_next, next_record, record_within, records_from, records_of}
use Rattle.log_records.proofs.Found.{inside}
use Rattle.c_bursts.specs.Bursts.{Run, run, behind, step_left, step_over, pause_of, at_end, Finished, stopped, ran, room_for, read_burst, burst_by}
use Rattle.c_bursts.proofs.Steps.{at-end, over-packet, stops, goes_on}
use Rattle.c_promises.specs.OfCalls.{all_read_in, BurstIsCalls}

-- where the next record begins does not matter to what is read
same_next : (end a b : ℕ) (r : Run) (packet : List ℕ) (packets : List (List ℕ)) → all_read_in end (behind r packet a) packets ≡ all_read_in end (behind r packet b) packets
same_next end a b r packet [] = refl
same_next end a b r packet (p ∷ ps) = refl

-- ---- the end is at the log's length

-- a record before the end is none
never_none : (x : Result Record BadLog) → found_record x ≡ Ok None → ⊥
never_none (Ok r) e = cc
never_none (Err b) e = cc

ends_there : (log : List ℕ) (at : ℕ) → next_record log at ≡ Ok None → length log ≤ at
unfolding next_record
ends_there log at e = go (ltb at (length log)) refl e
  where
    go : (b : Bool) → ltb at (length log) ≡ b → cond b (found_record (record_within log at)) (Ok None) ≡ Ok None → length log ≤ at
    go true t h = absurd (never_none (record_within log at) h)
    go false t h = ltb-false at (length log) t

-- ---- a step for each record

-- without a pause a packet's step goes on
no_pause : (r : Run) (packet : List ℕ) (next : ℕ) → (step_over 0 r packet next).stop ≡ 0
unfolding pause_of
no_pause r packet next = refl

-- the run behind these packets, stopped at the end
abbrev read_all : List ℕ → Run → List (List ℕ) → Finished
read_all burst r packets = stopped (step_left at_end (all_read_in (length burst) r packets))

reads_all : (most room : ℕ) (burst : List ℕ) (r : Run) (packets : List (List ℕ)) → records_from most burst r.next ≡ records packets true → length packets ≤ room → r.next ≤ length burst
    → ran 0 room burst r ≡ read_all burst r packets
unfolding records_from
reads_all zero room burst r packets e fits inside_it = absurd (false≢true (ap (λ (x : Records). x.clean) e))
reads_all (suc most) room burst r packets e fits inside_it =
    go (next_record burst r.next) refl e (λ packet next ps g fit within. reads_all most (room - 1) burst (behind r packet next) ps g fit within)
  where
    go : (x : Found) → next_record burst r.next ≡ x → by_next burst (records_from most burst) x ≡ records packets true
        → ((packet : List ℕ) (next : ℕ) (ps : List (List ℕ)) → records_from most burst next ≡ records ps true → length ps ≤ room - 1 → next ≤ length burst
        → ran 0 (room - 1) burst (behind r packet next) ≡ read_all burst (behind r packet next) ps)
        → ran 0 room burst r ≡ read_all burst r packets
    go (Ok None) at f later =
        let there : r.next ≡ length burst = omega (arith, ends_there burst r.next at) in
        let none : [] ≡ packets = ap (λ (x : Records). x.packets) f in
        sym (stops 0 room burst r (step_left at_end r) (at-end burst 0 room r at) (λ z. omega (arith, z)))
        ∙ (ap (λ (n : ℕ). stopped (step_left at_end (run r.desk r.reports r.count n))) there
        ∙ ap (read_all burst r) none)
    go (Err _) at f later = absurd (false≢true (ap (λ (x : Records). x.clean) f))
    go (Ok (Some r')) at f later =
        let packet : List ℕ = take r'.size (drop r'.from burst) in
        let next = r'.next in
        let rest : Records = records_from most burst next in
        let whole : packet ∷ rest.packets ≡ packets = ap (λ (x : Records). x.packets) f in
        let clean : rest.clean ≡ true = ap (λ (x : Records). x.clean) f in
        let counted : length (packet ∷ rest.packets) ≡ length packets = ap length whole in
        let some : room ≡ 0 → ⊥ = λ z. omega (arith, counted, fits, z) in
        let fit : length rest.packets ≤ room - 1 = omega (arith, counted, fits) in
        let place = inside burst r.next r' at in
        sym (goes_on 0 room burst r (step_over 0 r packet next) (over-packet burst 0 room r r' at some) (no_pause r packet next))
        ∙ (later packet next rest.packets (ap (records rest.packets) clean) fit place.within
        ∙ (ap (λ (x : Run). stopped (step_left at_end x)) (same_next (length burst) next (length burst) r packet rest.packets)
        ∙ ap (read_all burst r) whole))

pub burst_is_calls : BurstIsCalls
unfolding read_burst records_of
burst_is_calls d reports burst packets w =
    ap (burst_by 0 d reports burst) w.passed
    ∙ reads_all (suc (length burst)) (room_for (length reports) (length d.response)) burst (run d reports 0 0) packets w.whole-records w.room (omega arith)

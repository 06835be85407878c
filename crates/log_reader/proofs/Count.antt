-- The records from a place on, counted: one step, and the end.
use Prim.Native.Nat.{ℕ, suc, ◌+◌, ◌-◌, ◌≤◌, ◌<◌}
use mathlib.Core.Path.{◌≡◌, refl, ap, sym, ◌∙◌}
use mathlib.Core.List.{List}
use native.Mathlib.Omega.{arith}
use native.Mathlib.Nat.{zero-add}
use lib.ListN.{length}
use Rattle.log_records.specs.declared.Record.{Record}
use Rattle.std.specs.Prelude.{Ok, Err, Some, None}
use Rattle.log_records.specs.Records.{Found, by_next, next_record, records_from, records_of}
use Rattle.log_records.proofs.Found.{inside}
use Rattle.log_reader.specs.declared.LogReader.{LogReader}
use Rattle.log_reader.specs.Reader.{place_behind, count_of, NextPromise}

-- how many records stand from a place on, at most `most` of them
abbrev pub from : ℕ → List ℕ → ℕ → ℕ
from most log at = length (records_from most log at).packets

-- the walk stands at `at` behind `count` records: each took a byte at least, and with those that are left they make the log's count
pub record Counted (log : List ℕ) (at count : ℕ) : Type 0 where
  pub passed : count ≤ at
  pub within : at ≤ length log
  pub left : count_of log ≡ count + from (suc (length log - count)) log at

-- a record counts one, and the records behind it are left
one : (most : ℕ) (log : List ℕ) (at : ℕ) (r : Record) → next_record log at ≡ Ok (Some r) → from (suc most) log at ≡ suc (from most log r.next)
unfolding records_from
one most log at r e = ap (λ (x : Found). length (by_next log (records_from most log) x).packets) e

-- at the end, and where the log is bad, nothing is left
none : (most : ℕ) (log : List ℕ) (at : ℕ) (x : Found) → ((r : Record) → x ≡ Ok (Some r) → ⊥) → next_record log at ≡ x → from (suc most) log at ≡ 0
unfolding records_from
none most log at (Ok (Some r)) other e = absurd (other r refl)
none most log at (Ok None) other e = ap (λ (x : Found). length (by_next log (records_from most log) x).packets) e
none most log at (Err _) other e = ap (λ (x : Found). length (by_next log (records_from most log) x).packets) e

pub start : (log : List ℕ) → Counted log 0 0
unfolding count_of records_of
start log =
    let whole : length log - 0 ≡ length log = omega arith in
    record { passed = omega arith; within = omega arith; left = sym (zero-add (from (suc (length log - 0)) log 0) ∙ ap (λ (k : ℕ). from (suc k) log 0) whole) }

pub step : (log : List ℕ) (at count : ℕ) (r : Record) → next_record log at ≡ Ok (Some r) → Counted log at count → Counted log r.next (count + 1)
step log at count r e c =
    let i = inside log at r e in
    let fewer : length log - count ≡ suc (length log - (count + 1)) = omega (arith, c.passed, i.onward, i.within) in
    let counted : from (suc (length log - count)) log at ≡ suc (from (suc (length log - (count + 1))) log r.next) =
    one (length log - count) log at r e ∙ ap (λ (k : ℕ). suc (from k log r.next)) fewer in
    record { passed = omega (arith, c.passed, i.onward); within = i.within; left = omega (arith, c.left, counted) }

pub finish : (log : List ℕ) (at count : ℕ) (x : Found) → ((r : Record) → x ≡ Ok (Some r) → ⊥) → next_record log at ≡ x → Counted log at count → count ≡ count_of log
finish log at count x other e c = omega (arith, c.left, none (length log - count) log at x other e)

-- ---- by a reader of the log, with `count` records before it
module _ (log : List ℕ) (reader after : LogReader) (count : ℕ) (same : reader.log.now ≡ log) (counted : Counted log reader.at count) where
  here : (x : Found) → NextPromise reader x after → next_record log reader.at ≡ x
  here x p = rw same at (sym p.0)

  -- it has moved behind a record
  pub moved : (r : Record) → NextPromise reader (Ok (Some r)) after → (after.log.now ≡ log) × Counted log after.at (count + 1) × (length log - after.at < length log - reader.at)
  moved r p =
      let e : next_record log reader.at ≡ Ok (Some r) = here (Ok (Some r)) p in
      let i = inside log reader.at r e in
      let behind : after.at ≡ r.next = ap (λ (q : LogReader). q.at) p.1 ∙ ap (λ (y : Found). place_behind y reader.at) (sym p.0) in
      (ap (λ (q : LogReader). q.log.now) p.1 ∙ same, rw behind (step log reader.at count r e counted), omega (arith, behind, i.onward, i.within))

  -- no record was left
  pub ended : (x : Found) → ((r : Record) → x ≡ Ok (Some r) → ⊥) → NextPromise reader x after → count ≡ count_of log
  ended x other p = finish log reader.at count x other (here x p) counted

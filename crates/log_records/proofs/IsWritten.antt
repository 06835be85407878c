-- A log that reads cleanly is the written log of its records: each length is written in one way only.
use Prim.Native.Nat.{ℕ, zero, suc, ◌+◌, ◌-◌, ◌*◌, ◌/◌, ◌%◌, ◌≤◌, ◌<◌}
use mathlib.Core.Path.{◌≡◌, refl, ap, sym, ◌∙◌}
use mathlib.Core.List.{List, [], ◌∷◌, ◌++◌, append_assoc}
use mathlib.Core.Bool.{true, false≢true}
use native.Mathlib.Omega.{arith}
use native.Mathlib.Numerals.{add-one}
use native.Mathlib.Nat.{div-add-mod', mod-lt}
use lib.ListN.{length, take, drop, length-drop, take-append-drop, drop_of_length-le}
use lib.Seq.{drop-cons, drop-drop, length-take-le}
use borrow.Author.Tests.{lt-ltb, le-ltb}
use Rattle.lists.specs.Bytes.{byte}
use Rattle.std.specs.Prelude.{Result, Ok, Err, Some, None}
use Rattle.log_records.specs.declared.Record.{Record}
use Rattle.log_records.specs.declared.BadLog.{BadLog}
use Rattle.log_records.specs.Records.{Found, found_record, Records, by_next, next_record, records_from, records_of}
use Rattle.log_records.specs.Written.{length_bytes, written_log, AllShort, LogIsWritten}
use Rattle.log_records.proofs.Found.{Stood, past, bad, one, two, stood, fits}

-- from a place on: the byte there, and what follows
next_byte : (log : List ℕ) (at : ℕ) → at < length log → byte log at ∷ drop (at + 1) log ≡ drop at log
next_byte log at h = rw (add-one at, ← drop-cons log at 0 h)

-- a length of one byte is written so
length-of_one : (n : ℕ) → n < 128 → length_bytes n ≡ n ∷ []
unfolding length_bytes
length-of_one n h = simp (lt-ltb n 128 h)

-- and so is one of two, where the second is not 0
length_of_two : (first second size : ℕ) → 128 ≤ first → first < 256 → (second ≡ 0 → ⊥) → first - 128 + 128 * second ≡ size
    → length_bytes size ≡ first ∷ second ∷ []
unfolding length_bytes
length_of_two first second size top byte not_0 is =
    let large : 128 ≤ size = omega arith in
    let low : size % 128 < 128 = mod-lt size (omega arith) in
    let whole = div-add-mod' size 128 in
    let quotient : size / 128 ≡ second = omega arith in
    let rest : size % 128 + 128 ≡ first = omega arith in
    simp (le-ltb size 128 large, quotient, rest)

-- a record that is read at a place is short, and stands there as it is written
record AsWritten (log : List ℕ) (at : ℕ) (r : Record) : Type 0 where
  short : r.size < 16384
  before : length_bytes r.size ++ drop r.from log ≡ drop at log
  behind : r.from + r.size ≡ r.next
  within : r.next ≤ length log

as_written : (log : List ℕ) (at : ℕ) (r : Record) → ((i : ℕ) → byte log i < 256) → Stood log at (Ok (Some r)) → AsWritten log at r
as_written log at r bytes (past there e) = absurd (false≢true cc)
as_written log at r bytes (bad e) = absurd (false≢true cc)
as_written log at r bytes (one there small e) =
    let f = fits (length log) (at + 1) (byte log at) r (omega arith) e in
    record {
      short = omega arith;
      before = rw (length-of_one r.size (omega arith), ← f.starts, ← f.sized) (next_byte log at there);
      behind = f.behind;
      within = f.within;
    }
as_written log at r bytes (two there top not_0 last e) =
    let f = fits (length log) (at + 2) (byte log at - 128 + 128 * byte log (at + 1)) r there e in
    let is_byte : byte log at < 256 = bytes at in
    let place : at + 1 + 1 ≡ at + 2 = omega arith in
    let second : byte log (at + 1) ∷ drop (at + 2) log ≡ drop (at + 1) log = rw (← place) (next_byte log (at + 1) (omega arith)) in
    record {
      short = omega arith;
      before =
          rw (length_of_two (byte log at) (byte log (at + 1)) r.size top is_byte not_0 f.sized, ← f.starts)
          (ap (λ (l : List ℕ). byte log at ∷ l) second ∙ next_byte log at (omega arith));
      behind = f.behind;
      within = f.within;
    }

-- its packet has the length that was read, and behind it the log goes on
packet-length : (log : List ℕ) (from size : ℕ) → from + size ≤ length log → length (take size (drop from log)) ≡ size
packet-length log from size h = length-take-le size (drop from log) (simp length-drop (omega arith))

whole_record : (log : List ℕ) (at : ℕ) (r : Record) → AsWritten log at r
    → (length_bytes (length (take r.size (drop r.from log))) ++ take r.size (drop r.from log)) ++ drop r.next log ≡ drop at log
whole_record log at r w =
    rw (packet-length log r.from r.size (omega arith), append_assoc, ← w.behind, ← drop-drop r.size r.from log, take-append-drop r.size (drop r.from log)) w.before

no_end : (x : Result Record BadLog) → found_record x ≡ Ok None → ⊥
no_end (Ok r) e = false≢true cc
no_end (Err _) e = false≢true cc

-- where no record and nothing bad stands, the log has ended
at-end : (log : List ℕ) (at : ℕ) → next_record log at ≡ Ok None → length log ≤ at
at-end log at e = go (stood log at e)
  where
    go : Stood log at (Ok None) → length log ≤ at
    go (past there e) = there
    go (bad e) = absurd (false≢true cc)
    go (one there small e) = absurd (no_end _ e)
    go (two there top not_0 last e) = absurd (no_end _ e)

-- records, read cleanly, are what is written from a place on
abbrev Written : List ℕ → ℕ → Records → Type 0
Written log at r = r.clean ≡ true → (written_log r.packets ≡ drop at log) × AllShort r.packets

from_place : (log : List ℕ) → ((i : ℕ) → byte log i < 256) → (most at : ℕ) → Written log at (records_from most log at)
unfolding records_from
from_place log bytes zero at = λ clean. absurd (false≢true clean)
from_place log bytes (suc most) at = go (next_record log at) refl (from_place log bytes most)
  where
    go : (x : Found) → next_record log at ≡ x → ((next : ℕ) → Written log next (records_from most log next)) → Written log at (by_next log (records_from most log) x)
    go (Ok None) e rest clean = (sym (drop_of_length-le log (at-end log at e)), record {})
    go (Err _) e rest clean = absurd (false≢true clean)
    go (Ok (Some r)) e rest clean =
        let packet : List ℕ = take r.size (drop r.from log) in
        let w = as_written log at r bytes (stood log at e) in
        let (behind, short) = rest r.next clean in (
          ap (λ (l : List ℕ). (length_bytes (length packet) ++ packet) ++ l) behind ∙ whole_record log at r w,
          (rw (packet-length log r.from r.size (omega arith)) w.short, short),
        )

pub log_is_written : LogIsWritten
unfolding records_of
log_is_written log bytes = from_place log bytes (suc (length log)) 0

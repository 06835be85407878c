-- What stands at a place of a log, by the bytes there.
use Prim.Native.Nat.{ℕ, ◌+◌, ◌-◌, ◌*◌, ◌≤◌, ◌<◌}
use mathlib.Core.Path.{◌≡◌, refl, ap, sym}
use mathlib.Core.List.{List}
use mathlib.Core.Bool.{Bool, true, false, cond, false≢true}
use native.Mathlib.Omega.{arith}
use lib.ListN.{length}
use Rattle.std.specs.Prelude.{Ok, Err, Some, None}
use lib.Dec.{eqb, ltb}
use borrow.Author.Tests.{lt-ltb, le-ltb, ltb-true, ltb-false, ne_eqb, eqb-false}
use Rattle.lists.specs.Bytes.{byte}
use Rattle.log_records.specs.declared.Record.{Record}
use Rattle.log_records.specs.Records.{record_of, unreadable, record_from, long_record, record_within, Found, found_record, next_record}

-- a packet that is all there
there : (n from size : ℕ) → from + size ≤ n → record_from n from size ≡ Ok (record_of from size (from + size))
unfolding record_from
there n from size h = simp (le-ltb (n - from) size (omega arith))

-- a length of one byte
pub small : (log : List ℕ) (at n : ℕ) → byte log at ≡ n → n < 128 → at + 1 + n ≤ length log → next_record log at ≡ Ok (Some (record_of (at + 1) n (at + 1 + n)))
unfolding next_record record_within
small log at n first h room =
    let inside : at < length log = omega arith in
    simp (lt-ltb at (length log) inside, first, lt-ltb n 128 h, there (length log) (at + 1) n room)

-- a length of two bytes
pub large : (log : List ℕ) (at low high : ℕ) → byte log at ≡ low + 128 → byte log (at + 1) ≡ high → 0 < high → high < 128
    → at + 2 + (low + 128 * high) ≤ length log → next_record log at ≡ Ok (Some (record_of (at + 2) (low + 128 * high) (at + 2 + (low + 128 * high))))
unfolding next_record record_within long_record
large log at low high first second some h room =
    let inside : at < length log = omega arith in
    let less : low + 128 - 128 ≡ low = omega arith in
    simp (
      lt-ltb at (length log) inside,
      first,
      second,
      le-ltb (low + 128) 128 (omega arith),
      le-ltb (length log) (at + 2) (omega arith),
      ne_eqb high 0 (λ e. omega arith),
      le-ltb 127 high (omega arith),
      less,
      there (length log) (at + 2) (low + 128 * high) room,
    )

-- ---- what stands at a place, by the tests that it passed: past the end, bad, or a record with its length in one byte or in two
pub data Stood (log : List ℕ) (at : ℕ) (x : Found) : Type 0 where
  past : length log ≤ at → x ≡ Ok None → Stood log at x
  bad : x ≡ Err unreadable → Stood log at x
  one : at < length log → byte log at < 128 → found_record (record_from (length log) (at + 1) (byte log at)) ≡ x → Stood log at x
  two : at + 2 ≤ length log → 128 ≤ byte log at → (byte log (at + 1) ≡ 0 → ⊥) → byte log (at + 1) ≤ 127
      → found_record (record_from (length log) (at + 2) (byte log at - 128 + 128 * byte log (at + 1))) ≡ x → Stood log at x

pub stood : (log : List ℕ) (at : ℕ) {x : Found} → next_record log at ≡ x → Stood log at x
unfolding next_record record_within long_record
stood log at {x} e = go _ _ _ _ _ refl refl refl refl refl e
  where
    go : (a b c d f : Bool) → ltb at (length log) ≡ a → ltb (byte log at) 128 ≡ b → ltb (length log) (at + 2) ≡ c → eqb (byte log (at + 1)) 0 ≡ d
        → ltb 127 (byte log (at + 1)) ≡ f
        → cond a
        (found_record
        (cond b (record_from (length log) (at + 1) (byte log at))
        (cond c (Err unreadable)
        (cond d (Err unreadable)
        (cond f (Err unreadable) (record_from (length log) (at + 2) (byte log at - 128 + 128 * byte log (at + 1)))))))) (Ok None)
        ≡ x
        → Stood log at x
    go false b c d f t u v w y e = past (ltb-false at (length log) t) (sym e)
    go true true c d f t u v w y e = one (ltb-true at (length log) t) (ltb-true (byte log at) 128 u) e
    go true false true d f t u v w y e = bad (sym e)
    go true false false true f t u v w y e = bad (sym e)
    go true false false false true t u v w y e = bad (sym e)
    go true false false false false t u v w y e =
        two (ltb-false (length log) (at + 2) v) (ltb-false (byte log at) 128 u) (eqb-false (byte log (at + 1)) 0 w) (ltb-false 127 (byte log (at + 1)) y) e

-- the packet is all there
pub record Fits (n f s : ℕ) (r : Record) : Type 0 where
  pub starts : f ≡ r.from
  pub sized : s ≡ r.size
  pub behind : r.from + r.size ≡ r.next
  pub within : r.next ≤ n

pub fits : (n f s : ℕ) (r : Record) → f ≤ n → found_record (record_from n f s) ≡ Ok (Some r) → Fits n f s r
unfolding record_from
fits n f s r start e = go (ltb (n - f) s) refl e
  where
    go : (b : Bool) → ltb (n - f) s ≡ b → found_record (cond b (Err unreadable) (Ok (record_of f s (f + s)))) ≡ Ok (Some r) → Fits n f s r
    go true t e = absurd (false≢true cc)
    go false t e =
        let room : s ≤ n - f = ltb-false (n - f) s t in
        let is : record_of f s (f + s) ≡ r = cc in
        let a : f ≡ r.from = ap (λ (x : Record). x.from) is in
        let b : s ≡ r.size = ap (λ (x : Record). x.size) is in
        let c : f + s ≡ r.next = ap (λ (x : Record). x.next) is in
        record { starts = a; sized = b; behind = omega arith; within = omega arith }

-- so it lies inside the log and behind the place
pub record Inside (log : List ℕ) (at : ℕ) (r : Record) : Type 0 where
  pub behind : r.from + r.size ≡ r.next
  pub within : r.next ≤ length log
  pub onward : at < r.next

pub inside : (log : List ℕ) (at : ℕ) (r : Record) → next_record log at ≡ Ok (Some r) → Inside log at r
inside log at r e = go (stood log at e)
  where
    go : Stood log at (Ok (Some r)) → Inside log at r
    go (past there e) = absurd (false≢true cc)
    go (bad e) = absurd (false≢true cc)
    go (one there small e) =
        let f = fits (length log) (at + 1) _ r (omega arith) e in
        record { behind = f.behind; within = f.within; onward = omega arith }
    go (two there top not_0 last e) =
        let f = fits (length log) (at + 2) _ r there e in
        record { behind = f.behind; within = f.within; onward = omega arith }

-- The runs in a row make the output.
use Prim.Native.Nat.{ℕ, zero, suc, ◌+◌, ◌-◌, ◌≤◌, ◌<◌}
use mathlib.Core.Path.{◌≡◌, refl, ap, ap₂, sym, subst, ◌∙◌}
use mathlib.Core.Bool.{Bool, true, false, cond}
use mathlib.Core.List.{List, [], ◌++◌, append_assoc, append-nil}
use native.Mathlib.Omega.{arith}
use native.Mathlib.Nat.{add-zero}
use lib.ListN.{length, take, drop, length-append}
use Rattle.lists.specs.Bytes.{written}
use Rattle.reading.specs.Desk.{Desk}
use Rattle.flows.specs.Fresh.{paper_desk}
use Rattle.flows.specs.Deliveries.{read, after}
use Rattle.std.specs.Prelude.{Ok, Err, Some, None}
use Rattle.log_records.specs.Records.{Found, Records, before, by_next, next_record, records_from}
use Rattle.log_records.proofs.Found.{inside}
use Rattle.log_lines.specs.Lines.{line_of, end_line, bad_log}
use Rattle.log_pieces.specs.Output.{output_of}
use Rattle.log_run.specs.Running.{Running, ran_from, RunSettled, run_settled_by, LogRunPromise, on_run, runs, RunsMakeOutput}
use Rattle.log_run.specs.declared.Ran.{Ran}
use Rattle.log_pieces.proofs.Pieces.{written_lines, still-room, one_more, short_log}
use Rattle.log_run.proofs.Running.{rest, run_is, by_lines, comes_on}

-- ---- every number of steps that is more than the bytes left finds the same records
records-enough : (m k : ℕ) (log : List ℕ) (at : ℕ) → length log - at < m → length log - at < k → records_from m log at ≡ records_from k log at
unfolding records_from
records-enough zero k log at h g = absurd (omega arith)
records-enough (suc m) zero log at h g = absurd (omega arith)
records-enough (suc m) (suc k) log at h g = go (next_record log at) refl (λ next h' g'. records-enough m k log next h' g')
  where
    go : (x : Found) → next_record log at ≡ x → ((next : ℕ) → length log - next < m → length log - next < k → records_from m log next ≡ records_from k log next)
        → by_next log (records_from m log) x ≡ by_next log (records_from k log) x
    go (Ok None) e ih = refl
    go (Err _) e ih = refl
    go (Ok (Some r)) e ih =
        let i = inside log at r e in
        ap (before (take r.size (drop r.from log))) (ih r.next (omega (arith, i.within, i.onward)) (omega (arith, i.within, i.onward)))

-- ---- what a run puts is the front of what is still to come
-- the output from a place on
abbrev pub still : Desk → List ℕ → ℕ → ℕ → List ℕ
still b log at count = output_of b count (records_from (suc (length log)) log at)

-- by what stands at the place
still_by : Desk → List ℕ → ℕ → Found → List ℕ
still_by b log count (Ok None) = end_line count
still_by b log count (Err _) = bad_log
still_by b log count (Ok (Some r)) =
    line_of (read b (take r.size (drop r.from log))).says (read b (take r.size (drop r.from log))).dropped ++ still (after b (take r.size (drop r.from log))) log r.next (count + 1)

still_is : (b : Desk) (log : List ℕ) (at count : ℕ) (x : Found) → next_record log at ≡ x → still b log at count ≡ still_by b log count x
unfolding records_from still_by output_of
still_is b log at count x e = ap (λ (y : Found). output_of b count (by_next log (records_from (length log) log) y)) e ∙ go x e
  where
    go : (x : Found) → next_record log at ≡ x → output_of b count (by_next log (records_from (length log) log) x) ≡ still_by b log count x
    go (Ok None) e = ap end_line (add-zero count)
    go (Err _) e = refl
    go (Ok (Some f)) e =
        let i = inside log at f e in
        let packet : List ℕ = take f.size (drop f.from log) in
        ap (λ (r : Records). output_of b count (before packet r)) (records-enough (length log) (suc (length log)) log f.next (omega (arith, i.within, i.onward)) (omega arith))
        ∙ sym (one_more b count packet (records_from (suc (length log)) log f.next))

-- what a run puts, and what the next ones put
abbrev onward : List ℕ → Running → List ℕ
onward log x = x.lines ++ cond x.over [] (still x.desk log x.at x.count)

front_of : (most : ℕ) (b : Desk) (log : List ℕ) (at count room : ℕ) → onward log (ran_from most b log at count room) ≡ still b log at count
unfolding still_by
front_of most b log = by_lines log (λ b at count x. onward log x ≡ still b log at count)
    (λ b at count. refl)
    (λ b at count e. append-nil (end_line count) ∙ sym (still_is b log at count (Ok None) e))
    (λ b at count x e. append-nil bad_log ∙ sym (still_is b log at count (Err x) e))
    (λ b at count r e x ih.
    let line : List ℕ = line_of (read b (take r.size (drop r.from log))).says (read b (take r.size (drop r.from log))).dropped in
    append_assoc line x.lines (cond x.over [] (still x.desk log x.at x.count))
    ∙ (ap (λ (l : List ℕ). line ++ l) ih ∙ sym (still_is b log at count (Ok (Some r)) e)))
    most b

-- a run hands on no more records than bytes
few-still : (most : ℕ) (b : Desk) (log : List ℕ) (at count room : ℕ) → count ≤ at → (ran_from most b log at count room).count ≤ (ran_from most b log at count room).at
few-still most b log = by_lines log (λ b at count x. count ≤ at → x.count ≤ x.at)
    (λ b at count h. h)
    (λ b at count e h. h)
    (λ b at count x e h. h)
    (λ b at count r e x ih h. let i = inside log at r e in ih (omega (arith, i.onward)))
    most b

-- ---- the runs from a place on
from_place : (most : ℕ) (b : Desk) (log : List ℕ) (at count : ℕ) (out : List ℕ) → length log - at < most → count ≤ at → 128 ≤ length out
    → runs most b log at count out ≡ still b log at count
unfolding runs
from_place zero b log at count out h few room = absurd (omega arith)
from_place (suc most) b log at count out h few room =
    ap (λ (x : RunSettled). on_run (runs most x.desk log x.ran.at x.ran.count x.out) x) (run_is b log at count out few)
    ∙ (go (rest b log at count (length out)) (comes_on b log at count (length out) room) (few-still (suc (length log)) b log at count (length out) few)
    (λ b' at' count' out' h' few' room'. from_place most b' log at' count' out' h' few' room')
    ∙ front_of (suc (length log)) b log at count (length out))
  where
    go : (x : Running) → (x.over ≡ false → (at < x.at) × (x.at ≤ length log)) → x.count ≤ x.at
        → ((b' : Desk) (at' count' : ℕ) (out' : List ℕ) → length log - at' < most → count' ≤ at' → 128 ≤ length out' → runs most b' log at' count' out' ≡ still b' log at' count')
        → on_run (runs most x.desk log x.at x.count (written out 0 x.lines)) (run_settled_by out x) ≡ onward log x
    go x on few' ih = ap₂ (λ (p q : List ℕ). p ++ q) (written_lines out x.lines) (by_end x.over refl)
      where
        by_end : (t : Bool) → x.over ≡ t → cond t [] (runs most x.desk log x.at x.count (written out 0 x.lines)) ≡ cond t [] (still x.desk log x.at x.count)
        by_end true e = refl
        by_end false e =
            let c = on e in
            ih x.desk x.at x.count (written out 0 x.lines) (omega (arith, c.0, c.1)) few' (still-room out x.lines room)

pub runs_make_output : RunsMakeOutput
runs_make_output log out small room = from_place (suc (length log)) paper_desk log 0 0 out (omega arith) (omega arith) room ∙ short_log log small

-- ---- what a caller's loop adds up: the bytes put and those still to come
module _ (b : Desk) (log : List ℕ) (at count : ℕ) (out : List ℕ) (r : Ran) (b' : Desk) (out' : List ℕ) (p : LogRunPromise b log at count out r b' out') (few : count ≤ at) where
  adds : r.used + length (cond r.over [] (still b' log r.at r.count)) ≡ length (still b log at count)
  adds =
      let x : Running = rest b log at count (length out) in
      ap (λ (l : RunSettled). l.ran.used + length (cond l.ran.over [] (still l.desk log l.ran.at l.ran.count))) (p ∙ run_is b log at count out few)
      ∙ (sym (length-append x.lines (cond x.over [] (still x.desk log x.at x.count))) ∙ ap length (front_of (suc (length log)) b log at count (length out)))

  -- a run that is over put all that was still to come
  pub adds_last : r.over ≡ true → r.used ≡ length (still b log at count)
  adds_last e = sym (add-zero r.used) ∙ (ap (λ (t : Bool). r.used + length (cond t [] (still b' log r.at r.count))) (sym e) ∙ adds)

  -- a run that is not over leaves the rest
  pub adds-more : r.over ≡ false → r.used + length (still b' log r.at r.count) ≡ length (still b log at count)
  adds-more e = ap (λ (t : Bool). r.used + length (cond t [] (still b' log r.at r.count))) (sym e) ∙ adds

  pub few-behind : r.count ≤ r.at
  few-behind = subst (λ (l : RunSettled). l.ran.count ≤ l.ran.at) (sym (p ∙ run_is b log at count out few)) (few-still (suc (length log)) b log at count (length out) few)

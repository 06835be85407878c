-- A run, by what stands at its place; the turn of its loop; how far it comes.
use Prim.Native.Nat.{ℕ, zero, suc, ◌+◌, ◌-◌, ◌≤◌, ◌<◌}
use mathlib.Core.Path.{◌≡◌, refl, ap, ap₂, sym, subst, ◌∙◌}
use mathlib.Core.Bool.{Bool, true, false, cond, false≢true}
use mathlib.Core.List.{List, [], ◌++◌, append_assoc, append-nil}
use native.Mathlib.Omega.{arith}
use lib.ListN.{length, take, drop, length-append, length-take, length-drop}
use lib.Dec.{ltb}
use borrow.Author.Tests.{le-ltb, lt-ltb}
use borrow.Rule.Slice.PartMut.{mid_of, put_mid}
use Rattle.lists.specs.Bytes.{written}
use Rattle.lists.proofs.Written.{written_front, written-part, written_behind, length-written}
use Rattle.reading.specs.Desk.{Desk}
use Rattle.flows.specs.Deliveries.{read, after}
use Rattle.std.specs.Prelude.{Ok, Err, Some, None}
use Rattle.log_records.specs.declared.Record.{Record}
use Rattle.log_records.specs.declared.BadLog.{BadLog}
use Rattle.log_records.specs.Records.{Found, next_record}
use Rattle.log_records.proofs.Found.{inside}
use Rattle.log_lines.specs.Lines.{line_of, end_line, bad_log}
use Rattle.log_lines.specs.Puts.{LinePut, line_put, put_line}
use Rattle.log_pieces.specs.declared.Piece.{Piece}
use Rattle.log_pieces.specs.declared.Piece.TheVariants.{Line, Last}
use Rattle.log_run.specs.declared.Ran.{Ran}
use Rattle.log_pieces.specs.Printing.{Printing, printing, last_printed, printed_by, printed, LinePromise, Onward}
use Rattle.log_pieces.proofs.Laws.{of_line, of_last}
use Rattle.log_pieces.proofs.Pieces.{put-there}
use Rattle.log_run.specs.Running.{Running, running, lines_before, record_ran, ran_by, ran_from, ran_of, RunSettled, run_settled, run_settled_by, log_run, LogRunPromise, RunOnward}

-- ---- every number of steps that is more than the bytes left makes the same run
ran-enough : (m k : ℕ) (b : Desk) (log : List ℕ) (at count room : ℕ) → length log - at < m → length log - at < k
    → ran_from m b log at count room ≡ ran_from k b log at count room
unfolding ran_from
ran-enough zero k b log at count room h g = absurd (omega arith)
ran-enough (suc m) zero b log at count room h g = absurd (omega arith)
ran-enough (suc m) (suc k) b log at count room h g =
    ap (cond (ltb room 128) (running [] b at count false)) (go (next_record log at) refl (λ b' next room' h' g'. ran-enough m k b' log next (count + 1) room' h' g'))
  where
    go : (x : Found) → next_record log at ≡ x
        → ((b' : Desk) (next room' : ℕ) → length log - next < m → length log - next < k → ran_from m b' log next (count + 1) room' ≡ ran_from k b' log next (count + 1) room')
        → ran_by (λ b' next room'. ran_from m b' log next (count + 1) room') b log at count room x ≡ ran_by (λ b' next room'. ran_from k b' log next (count + 1) room') b log at count room x
    go (Ok None) e ih = refl
    go (Err _) e ih = refl
    go (Ok (Some r)) e ih =
        let i = inside log at r e in
        let packet : List ℕ = take r.size (drop r.from log) in
        let line : List ℕ = line_of (read b packet).says (read b packet).dropped in
        ap (lines_before line) (ih (after b packet) r.next (room - length line) (omega (arith, i.within, i.onward)) (omega (arith, i.within, i.onward)))

-- a run from a place on, with steps for the whole log
abbrev pub rest : Desk → List ℕ → ℕ → ℕ → ℕ → Running
rest b log at count room = ran_from (suc (length log)) b log at count room

module _ (b : Desk) (log : List ℕ) (at count room : ℕ) where
  -- no room for a line
  pub no_room : room < 128 → rest b log at count room ≡ running [] b at count false
  unfolding ran_from
  no_room h = rw (lt-ltb room 128 h)

  -- room for one
  pub at_record : (r : Record) (line : List ℕ) → 128 ≤ room → next_record log at ≡ Ok (Some r)
      → line_of (read b (take r.size (drop r.from log))).says (read b (take r.size (drop r.from log))).dropped ≡ line
      → rest b log at count room ≡ lines_before line (rest (after b (take r.size (drop r.from log))) log r.next (count + 1) (room - length line))
  unfolding ran_from
  at_record r line h e l =
      let i = inside log at r e in
      ap (λ (t : Bool). cond t (running [] b at count false) (ran_by (λ b' next room'. ran_from (length log) b' log next (count + 1) room') b log at count room (next_record log at))) (le-ltb room 128 h)
      ∙ (ap (ran_by (λ b' next room'. ran_from (length log) b' log next (count + 1) room') b log at count room) e
      ∙ (ap (λ (l : List ℕ). record_ran (λ b' next room'. ran_from (length log) b' log next (count + 1) room') b (take r.size (drop r.from log)) l r.next room) l
      ∙ ap (lines_before line) (ran-enough (length log) (suc (length log)) _ log r.next (count + 1) (room - length line) (omega (arith, i.within, i.onward)) (omega arith))))

  pub at-end : 128 ≤ room → next_record log at ≡ Ok None → rest b log at count room ≡ running (end_line count) b at count true
  unfolding ran_from
  at-end h e = rw (le-ltb room 128 h, e)

  pub at_bad_lem : (x : BadLog) → 128 ≤ room → next_record log at ≡ Err x → rest b log at count room ≡ running bad_log b at count true
  unfolding ran_from
  at_bad_lem x h e = rw (le-ltb room 128 h, e)

-- what a run leaves, with no more records than bytes before its place
pub run_is : (b : Desk) (log : List ℕ) (at count : ℕ) (out : List ℕ) → count ≤ at → log_run b log at count out ≡ run_settled_by out (rest b log at count (length out))
unfolding log_run ran_of
run_is b log at count out h = rw (le-ltb at count h)

-- ---- the loop of `run`: the lines so far stand in the buffer, the whole run is those and what is still to come, and no more records
-- than bytes were read
pub record Going (b₀ : Desk) (log : List ℕ) (at₀ count₀ : ℕ) (out₀ : List ℕ) (b : Desk) (at count : ℕ) (out : List ℕ) (used : ℕ) : Type 0 where
  pub lines : List ℕ
  pub size : used ≡ length lines
  pub front : count₀ ≤ at₀
  pub few : count ≤ at
  pub fits : used ≤ length out₀
  pub same : length out ≡ length out₀
  pub stored : out ≡ written out₀ 0 lines
  pub whole : rest b₀ log at₀ count₀ (length out₀) ≡ lines_before lines (rest b log at count (length out₀ - used))

-- nothing so far
pub begins : (b : Desk) (log : List ℕ) (at count : ℕ) (out : List ℕ) → count ≤ at → Going b log at count out b at count out 0
begins b log at count out h = record {
  lines = [];
  size = refl;
  front = h;
  few = h;
  fits = omega arith;
  same = refl;
  stored = sym (written_front out []);
  whole = ap (rest b log at count) (let e : length out ≡ length out - 0 = omega arith in e);
}

behind-both : (first second : List ℕ) (x : Running) → lines_before first (lines_before second x) ≡ lines_before (first ++ second) x
behind-both first second x = ap (λ (l : List ℕ). running l x.desk x.at x.count x.over) (sym (append_assoc first second x.lines))

module _ (b₀ : Desk) (log : List ℕ) (at₀ count₀ : ℕ) (out₀ : List ℕ) (b : Desk) (at count : ℕ) (out : List ℕ) (used : ℕ)
    (g : Going b₀ log at₀ count₀ out₀ b at count out used) where
  -- a line into the part of the buffer that is left
  record Added (line part : List ℕ) (size : ℕ) : Type 0 where
    pub sized : size ≡ length line
    pub stored : put_mid used (length out - used) out part ≡ written out₀ 0 (g.lines ++ line)

  add_line : (line part : List ℕ) (size : ℕ) → 128 ≤ length out - used → size ≤ 128 → line_put size part ≡ put_line (mid_of used (length out - used) out) line → Added line part size
  add_line line part size room few e =
      let long : 128 ≤ length (mid_of used (length out - used) out) = simp (length-take, length-drop) (omega arith) in
      let there = e ∙ put-there (mid_of used (length out - used) out) line long in
      let sized : size ≡ length line = ap (λ (x : LinePut). x.size) there in
      let at_used : written out used line ≡ written (written out₀ 0 g.lines) (0 + length g.lines) line = ap₂ (λ (l : List ℕ) (k : ℕ). written l k line) g.stored (omega (arith, g.size)) in
      record {
        sized = sized;
        stored =
            written-part out line part used (omega (arith, g.fits, g.same)) (ap (λ (x : LinePut). x.out) there)
            ∙ (at_used ∙ written_behind out₀ g.lines line 0 (omega (arith, g.fits, g.same, g.size)));
      }

  -- a record's line
  pub turn : (piece : Piece) (size next : ℕ) (b' : Desk) (part : List ℕ) → piece ≡ Line size next → 128 ≤ length out - used → Onward (length log) at piece
      → LinePromise b log at count (mid_of used (length out - used) out) piece b' part
      → Going b₀ log at₀ count₀ out₀ b' next (count + 1) (put_mid used (length out - used) out part) (used + size)
  unfolding printed
  turn piece size next b' part is room o p =
      let h = of_line (length log) at piece size next o is in
      go h.0 h.1 (next_record log at) refl (subst (λ (x : Piece). LinePromise b log at count (mid_of used (length out - used) out) x b' part) is p)
    where
      go : size ≤ 128 → at < next → (x : Found) → next_record log at ≡ x → printing (Line size next) b' part ≡ printed_by b log count (mid_of used (length out - used) out) x
          → Going b₀ log at₀ count₀ out₀ b' next (count + 1) (put_mid used (length out - used) out part) (used + size)
      go few onward (Ok None) e p = let q = ap (λ (x : Printing). x.piece) p in absurd (false≢true cc)
      go few onward (Err _) e p = let q = ap (λ (x : Printing). x.piece) p in absurd (false≢true cc)
      go few onward (Ok (Some r)) e p =
          let packet : List ℕ = take r.size (drop r.from log) in
          let line : List ℕ = line_of (read b packet).says (read b packet).dropped in
          let q = ap (λ (x : Printing). x.piece) p in
          let size_is : size ≡ (put_line (mid_of used (length out - used) out) line).size = cc in
          let next-is : next ≡ r.next = cc in
          let a = add_line line part size room few (ap₂ line_put size_is (ap (λ (x : Printing). x.out) p)) in
          let long : length (g.lines ++ line) ≡ used + size = simp length-append (omega (arith, g.size, a.sized)) in
          let fits : used + size ≤ length out₀ = omega (arith, g.same, g.fits) in
          let less : length out₀ - used - length line ≡ length out₀ - (used + size) = omega (arith, a.sized) in
          record {
            lines = g.lines ++ line;
            size = sym long;
            front = g.front;
            few = omega (arith, g.few);
            fits = fits;
            same = ap length a.stored ∙ length-written out₀ (g.lines ++ line) 0 (omega (arith, long, fits));
            stored = a.stored;
            whole =
                g.whole
                ∙ (ap (lines_before g.lines) (at_record b log at count (length out₀ - used) r line (omega (arith, g.same)) e refl)
                ∙ (behind-both g.lines line (rest (after b packet) log r.next (count + 1) (length out₀ - used - length line))
                ∙ (ap (λ (x : Desk). lines_before (g.lines ++ line) (rest x log r.next (count + 1) (length out₀ - used - length line))) (sym (ap (λ (x : Printing). x.desk) p))
                ∙ ap₂ (λ (x y : ℕ). lines_before (g.lines ++ line) (rest b' log x (count + 1) y)) (sym next-is) less)));
          }

  -- what the whole run leaves, once no more is to come
  run_lines : (b' : Desk) (line : List ℕ) (over : Bool) → rest b log at count (length out₀ - used) ≡ running line b' at count over
      → log_run b₀ log at₀ count₀ out₀ ≡ run_settled_by out₀ (running (g.lines ++ line) b' at count over)
  run_lines b' line over e = run_is b₀ log at₀ count₀ out₀ g.front ∙ ap (run_settled_by out₀) (g.whole ∙ ap (lines_before g.lines) e)

  -- the last line
  ends_by : (size : ℕ) (b' : Desk) (line part : List ℕ) → 128 ≤ length out - used → size ≤ 128
      → rest b log at count (length out₀ - used) ≡ running line b at count true
      → printing (Last size) b' part ≡ last_printed b (mid_of used (length out - used) out) line
      → LogRunPromise b₀ log at₀ count₀ out₀ (record { used = used + size; at = at; count = count; over = true }) b' (put_mid used (length out - used) out part)
  ends_by size b' line part room few e p =
      let q = ap (λ (x : Printing). x.piece) p in
      let size_is : size ≡ (put_line (mid_of used (length out - used) out) line).size = cc in
      let a = add_line line part size room few (ap₂ line_put size_is (ap (λ (x : Printing). x.out) p)) in
      let long : used + size ≡ length (g.lines ++ line) = simp length-append (omega (arith, g.size, a.sized)) in
      ap (λ (x : Desk). run_settled (record { used = used + size; at = at; count = count; over = true }) x (put_mid used (length out - used) out part)) (ap (λ (x : Printing). x.desk) p)
      ∙ (ap₂ (λ (k : ℕ) (l : List ℕ). run_settled (record { used = k; at = at; count = count; over = true }) b l) long a.stored
      ∙ sym (run_lines b line true e))

  pub ends : (piece : Piece) (size : ℕ) (b' : Desk) (part : List ℕ) → piece ≡ Last size → 128 ≤ length out - used → Onward (length log) at piece
      → LinePromise b log at count (mid_of used (length out - used) out) piece b' part
      → LogRunPromise b₀ log at₀ count₀ out₀ (record { used = used + size; at = at; count = count; over = true }) b' (put_mid used (length out - used) out part)
  unfolding printed
  ends piece size b' part is room o p =
      go (of_last (length log) at piece size o is) (next_record log at) refl (subst (λ (x : Piece). LinePromise b log at count (mid_of used (length out - used) out) x b' part) is p)
    where
      go : size ≤ 128 → (x : Found) → next_record log at ≡ x → printing (Last size) b' part ≡ printed_by b log count (mid_of used (length out - used) out) x
          → LogRunPromise b₀ log at₀ count₀ out₀ (record { used = used + size; at = at; count = count; over = true }) b' (put_mid used (length out - used) out part)
      go few (Ok None) e p = ends_by size b' (end_line count) part room few (at-end b log at count (length out₀ - used) (omega (arith, g.same)) e) p
      go few (Err bad) e p = ends_by size b' bad_log part room few (at_bad_lem b log at count (length out₀ - used) bad (omega (arith, g.same)) e) p
      go few (Ok (Some r)) e p = let q = ap (λ (x : Printing). x.piece) p in absurd (false≢true cc)

  -- no room for one more
  pub stops : length out - used < 128 → LogRunPromise b₀ log at₀ count₀ out₀ (record { used = used; at = at; count = count; over = false }) b out
  stops h =
      ap₂ (λ (k : ℕ) (l : List ℕ). run_settled (record { used = k; at = at; count = count; over = false }) b l)
      (g.size ∙ ap length (sym (append-nil g.lines))) (g.stored ∙ ap (written out₀ 0) (sym (append-nil g.lines)))
      ∙ sym (run_lines b [] false (no_room b log at count (length out₀ - used) (omega (arith, g.same))))

-- more records than bytes before the place
pub refuses : (b : Desk) (log : List ℕ) (at count : ℕ) (out : List ℕ) → at < count
    → LogRunPromise b log at count out (record { used = 0; at = at; count = count; over = true }) b out
unfolding log_run ran_of
refuses b log at count out h = rw (lt-ltb at count h) (ap (run_settled (record { used = 0; at = at; count = count; over = true }) b) (sym (written_front out [])))

-- ---- what holds of every run: of one that puts nothing, or the last line alone; and of a record's line and a run behind it, if of that run
module _ (log : List ℕ) (P : Desk → ℕ → ℕ → Running → Type 0)
    (nothing : (b : Desk) (at count : ℕ) → P b at count (running [] b at count false))
    (end : (b : Desk) (at count : ℕ) → next_record log at ≡ Ok None → P b at count (running (end_line count) b at count true))
    (bad : (b : Desk) (at count : ℕ) (x : BadLog) → next_record log at ≡ Err x → P b at count (running bad_log b at count true))
    (line : (b : Desk) (at count : ℕ) (r : Record) → next_record log at ≡ Ok (Some r) → (x : Running)
    → P (after b (take r.size (drop r.from log))) r.next (count + 1) x
    → P b at count (lines_before (line_of (read b (take r.size (drop r.from log))).says (read b (take r.size (drop r.from log))).dropped) x)) where
  pub by_lines : (most : ℕ) (b : Desk) (at count room : ℕ) → P b at count (ran_from most b log at count room)
  unfolding ran_from
  by_lines zero b at count room = nothing b at count
  by_lines (suc most) b at count room = go (ltb room 128) (next_record log at) refl (λ b' next room'. by_lines most b' next (count + 1) room')
    where
      go : (t : Bool) (x : Found) → next_record log at ≡ x → ((b' : Desk) (next room' : ℕ) → P b' next (count + 1) (ran_from most b' log next (count + 1) room'))
          → P b at count (cond t (running [] b at count false) (ran_by (λ b' next room'. ran_from most b' log next (count + 1) room') b log at count room x))
      go true x e ih = nothing b at count
      go false (Ok None) e ih = end b at count e
      go false (Err x) e ih = bad b at count x e
      go false (Ok (Some r)) e ih = line b at count r e _ (ih _ r.next _)

-- ---- how far a run comes
abbrev Inside : List ℕ → Desk → ℕ → ℕ → Running → Type 0
Inside log b at count x = at ≤ length log → (at ≤ x.at) × (x.at ≤ length log)

inside_log : (most : ℕ) (b : Desk) (log : List ℕ) (at count room : ℕ) → Inside log b at count (ran_from most b log at count room)
inside_log most b log = by_lines log (Inside log) stays (λ b at count e. stays b at count) (λ b at count x e. stays b at count) onward most b
  where
    stays : (b : Desk) (at count : ℕ) → at ≤ length log → (at ≤ at) × (at ≤ length log)
    stays b at count h = (omega arith, h)

    onward : (b : Desk) (at count : ℕ) (r : Record) → next_record log at ≡ Ok (Some r) → (x : Running)
        → Inside log (after b (take r.size (drop r.from log))) r.next (count + 1) x → Inside log b at count x
    onward b at count r e x ih h =
        let i = inside log at r e in
        let j = ih i.within in
        (omega (arith, j.0, i.onward), j.1)

-- with room for a line, and not over: past the place
pub comes_on : (b : Desk) (log : List ℕ) (at count room : ℕ) → 128 ≤ room → (rest b log at count room).over ≡ false
    → (at < (rest b log at count room).at) × ((rest b log at count room).at ≤ length log)
comes_on b log at count room h o = go (next_record log at) refl
  where
    go : (x : Found) → next_record log at ≡ x → (at < (rest b log at count room).at) × ((rest b log at count room).at ≤ length log)
    go (Ok None) e = let q = ap (λ (x : Running). x.over) (at-end b log at count room h e) in absurd (false≢true (sym o ∙ q))
    go (Err x) e = let q = ap (λ (x : Running). x.over) (at_bad_lem b log at count room x h e) in absurd (false≢true (sym o ∙ q))
    go (Ok (Some f)) e =
        let i = inside log at f e in
        let packet : List ℕ = take f.size (drop f.from log) in
        let line : List ℕ = line_of (read b packet).says (read b packet).dropped in
        let q : (rest b log at count room).at ≡ (rest (after b packet) log f.next (count + 1) (room - length line)).at =
        ap (λ (x : Running). x.at) (at_record b log at count room f line h e refl) in
        let r = inside_log (suc (length log)) (after b packet) log f.next (count + 1) (room - length line) i.within in
        (omega (arith, q, r.0, i.onward), omega (arith, q, r.1))

-- what a caller's loop needs
pub onward_by : (b : Desk) (log : List ℕ) (at count : ℕ) (out : List ℕ) (r : Ran) (b' : Desk) (out' : List ℕ) → LogRunPromise b log at count out r b' out' → r.used ≤ length out
    → RunOnward (length log) at (length out) r
unfolding log_run ran_of
onward_by b log at count out r b' out' p fits = (fits, λ room o. go (ltb at count) room (sym (ap (λ (x : RunSettled). x.ran.over) p) ∙ o) (ap (λ (x : RunSettled). x.ran.at) p))
  where
    go : (t : Bool) → 128 ≤ length out → (cond t (running [] b at count true) (rest b log at count (length out))).over ≡ false
        → r.at ≡ (cond t (running [] b at count true) (rest b log at count (length out))).at
        → (at < r.at) × (r.at ≤ length log)
    go true room o e = absurd (false≢true (sym o))
    go false room o e = let c = comes_on b log at count (length out) room o in (omega (arith, e, c.0), omega (arith, e, c.1))

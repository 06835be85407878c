-- Text put behind text.
use Prim.Native.Nat.{ℕ, ◌+◌, ◌≤◌, ◌<◌}
use mathlib.Core.Path.{◌≡◌, refl, ap, sym, ◌∙◌}
use mathlib.Core.List.{List, [], ◌++◌}
use native.Mathlib.Omega.{arith}
use lib.ListN.{length, length-append}
use Rattle.lists.specs.Bytes.{written}
use Rattle.lists.proofs.Written.{written_behind}
use lib.ListN.{take, drop, take-append-drop}
use borrow.Author.Tests.{lt-ltb, le-ltb}
use native.Mathlib.Nat.{add-zero, zero-add}
use mathlib.Core.List.{append-nil}
use Rattle.log_lines.specs.declared.Line.{Line}
use Rattle.log_lines.specs.Puts.{Puts, line_put, put_line}

-- two runs of bytes, the second where the first ends, are one
pub both : {first second : List ℕ} {before mid after : Line} → before.at + length first + length second ≤ length before.out.now
    → Puts before first mid → Puts mid second after → Puts before (first ++ second) after
both {first} {second} {before} {mid} fits p q = record {
  same = q.same ∙ p.same;
  size = q.size ∙ p.size;
  stored =
      q.stored
      ∙ (ap (λ (k : ℕ). written mid.out.now k second) p.behind
      ∙ (ap (λ (l : List ℕ). written l (before.at + length first) second) p.stored
      ∙ written_behind before.out.now first second before.at fits));
  behind = q.behind ∙ (ap (λ (k : ℕ). k + length second) p.behind ∙ simp length-append (omega arith));
}

-- none
pub none : (line : Line) → Puts line [] line
unfolding written
none line =
    let out = line.out.now in
    record {
      same = refl;
      size = refl;
      stored = sym (ap (λ (l : List ℕ). l ++ drop (line.at + 0) out) (append-nil (take line.at out)) ∙ (ap (λ (k : ℕ). take line.at out ++ drop k out) (add-zero line.at) ∙ take-append-drop line.at out));
      behind = sym (add-zero line.at);
    }

-- a line in a buffer with room for it, and in one with too little; what the line's buffer holds at the end is what the caller's holds
pub has_room : {line left : List ℕ} {before after : Line} → before.at ≡ 0 → 128 ≤ length before.out.now → after.at ≤ 128 → Puts before line after
    → (before.out.ghost_name ≡ after.out.ghost_name → left ≡ after.out.now)
    → (line_put after.at left ≡ put_line before.out.now line) × (after.at ≤ 128)
unfolding put_line
has_room {line} {before = before} first h few p back =
    (rw (le-ltb (length before.out.now) 128 h, back (sym p.same), p.stored, p.behind, first, zero-add (length line)), few)

pub no_room : {out : List ℕ} (line : List ℕ) → length out < 128 → (line_put 0 out ≡ put_line out line) × (0 ≤ 128)
unfolding put_line
no_room {out} line h = (rw (lt-ltb (length out) 128 h), omega arith)

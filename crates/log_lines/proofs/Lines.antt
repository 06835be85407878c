-- Lines from their parts.
use Prim.Native.Nat.{ℕ, ◌+◌, ◌≤◌, ◌<◌}
use mathlib.Core.Path.{◌≡◌, ap, sym, subst, ◌∙◌}
use mathlib.Core.Bool.{Bool, cond}
use mathlib.Core.List.{List, [], ◌++◌}
use native.Mathlib.Omega.{arith}
use lib.ListN.{length}
use Rattle.answers.specs.declared.Answer.{Answer}
use Rattle.std.specs.Prelude.{Result, Err}
use Rattle.answers.specs.Answers.{Said, said_by}
use Rattle.log_lines.specs.Text.{text}
use Rattle.log_lines.specs.Lines.{spaced, answer_text, line_of, end_line}
use Rattle.log_lines.specs.declared.Line.{Line}
use Rattle.log_lines.specs.Puts.{Puts, line_put, put_line}
use Rattle.log_lines.proofs.Puts.{both, has_room}

-- bytes that end so far behind the place, or before
abbrev pub Within : Line → List ℕ → Line → ℕ → Type 0
Within before bytes after most = Puts before bytes after × (after.at ≤ before.at + most)

-- two runs of bytes that end inside the buffer
pub joined : {first second : List ℕ} {before mid after : Line} → after.at ≤ length before.out.now → Puts before first mid → Puts mid second after → Puts before (first ++ second) after
joined h p q = both (omega (arith, p.behind, q.behind)) p q

-- a word of three letters and four numbers
pub four : {word : List ℕ} {l₀ l₁ l₂ l₃ l₄ after : Line} (a b c d : ℕ) → length word ≡ 3 → l₀.at + 87 ≤ length l₀.out.now
    → Puts l₀ word l₁ → Within l₁ (spaced a) l₂ 21 → Within l₂ (spaced b) l₃ 21 → Within l₃ (spaced c) l₄ 21 → Within l₄ (spaced d) after 21
    → Within l₀ (word ++ spaced a ++ spaced b ++ spaced c ++ spaced d) after 87
four {l₀ = l₀} {l₁ = l₁} a b c d letters fits w pa pb pc pd =
    let first : l₁.at ≡ l₀.at + 3 = omega (arith, w.behind, letters) in
    let one = joined (omega (arith, pa.1)) w pa.0 in
    let two = joined (omega (arith, pa.1, pb.1)) one pb.0 in
    let three = joined (omega (arith, pa.1, pb.1, pc.1)) two pc.0 in
    (joined (omega (arith, pa.1, pb.1, pc.1, pd.1)) three pd.0, omega (arith, pa.1, pb.1, pc.1, pd.1))

-- a refusal and its number
pub refused_is : {R : Type 0} (number_of : R → ℕ) {before mid after : Line} {number : ℕ} {answer : Result Answer R} {refusal : R} → answer ≡ Err refusal → number ≡ number_of refusal
    → before.at + 87 ≤ length before.out.now → Puts before (text "refused") mid → Within mid (spaced number) after 21
    → Within before (answer_text (said_by number_of answer)) after 87
refused_is {R} number_of {before} {mid} {after} e n fits p q =
    let seven : mid.at ≡ before.at + 7 = p.behind in
    let says = ap (λ (k : ℕ). text "refused" ++ spaced k) n ∙ sym (ap (λ (y : Result Answer R). answer_text (said_by number_of y)) e) in
    (subst (λ (l : List ℕ). Puts before l after) says (joined (omega (arith, q.1)) p q.0), omega (arith, q.1))

-- text and the end of the line
ends : {bytes left : List ℕ} {before mid after : Line} → before.at ≡ 0 → 128 ≤ length before.out.now → mid.at < 128 → Puts before bytes mid → Puts mid (text "\n") after
    → (before.out.ghost_name ≡ after.out.ghost_name → left ≡ after.out.now)
    → (line_put after.at left ≡ put_line before.out.now (bytes ++ text "\n")) × (after.at ≤ 128)
ends {mid = mid} {after = after} first fits few p n back =
    let last : after.at ≡ mid.at + 1 = n.behind in
    has_room first fits (omega arith) (joined (omega arith) p n) back

-- a whole line: the answer, ` dropped` where so, the end of the line
pub line-is : {left : List ℕ} {before l₁ l₂ after : Line} (says : Said) (dropped : Bool) → before.at ≡ 0 → 128 ≤ length before.out.now
    → Within before (answer_text says) l₁ 87 → Within l₁ (cond dropped (text " dropped") []) l₂ 8 → Puts l₂ (text "\n") after
    → (before.out.ghost_name ≡ after.out.ghost_name → left ≡ after.out.now)
    → (line_put after.at left ≡ put_line before.out.now (line_of says dropped)) × (after.at ≤ 128)
unfolding line_of
line-is says dropped first fits p q n back = ends first fits (omega (arith, p.1, q.1)) (joined (omega (arith, p.1, q.1)) p.0 q.0) n back

-- the line of a clean end
pub end_is : {left : List ℕ} {before l₁ l₂ after : Line} (count : ℕ) → before.at ≡ 0 → 128 ≤ length before.out.now
    → Puts before (text "end") l₁ → Within l₁ (spaced count) l₂ 21 → Puts l₂ (text "\n") after
    → (before.out.ghost_name ≡ after.out.ghost_name → left ≡ after.out.now)
    → (line_put after.at left ≡ put_line before.out.now (end_line count)) × (after.at ≤ 128)
unfolding end_line
end_is {before} {l₁} count first fits p q n back =
    let three : l₁.at ≡ before.at + 3 = p.behind in
    ends first fits (omega (arith, q.1)) (joined (omega (arith, q.1)) p q.0) n back

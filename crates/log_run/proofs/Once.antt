-- Any two outcomes that a promise about the log allows are one: each promise is an equation.
use Prim.Native.Nat.{ℕ}
use mathlib.Core.Path.{◌≡◌, ap, sym, ◌∙◌}
use mathlib.Core.List.{List}
use Rattle.log_lines.specs.Puts.{LinePut, line_put}
use Rattle.log_pieces.specs.Printing.{Printing}
use Rattle.log_run.specs.Running.{RunSettled}
use Rattle.log_run.specs.Once.{NextRecordOnce, WriteLineOnce, WriteEndOnce, WriteBadOnce, NextLineOnce, LogRunOnce}

pub next_record-once : NextRecordOnce
next_record-once log at r r' p q = p ∙ sym q

-- of every line
put : (promised : LinePut) (r r' : ℕ) (after after' : List ℕ) → line_put r after ≡ promised → line_put r' after' ≡ promised → (r ≡ r') × (after ≡ after')
put promised r r' after after' p q =
    let e = p ∙ sym q in
    (ap (λ (l : LinePut). l.size) e, ap (λ (l : LinePut). l.out) e)

pub write_line_once : WriteLineOnce
write_line_once R number_of out reading r r' after after' p q = put _ r r' after after' p.0 q.0

pub write_end_once : WriteEndOnce
write_end_once out count r r' after after' p q = put _ r r' after after' p.0 q.0

pub write_bad_once : WriteBadOnce
write_bad_once out r r' after after' p q = put _ r r' after after' p.0 q.0

pub next_line_once : NextLineOnce
next_line_once b log at count line r r' after after' line₁ line₂ p q =
    let e = p ∙ sym q in
    (ap (λ (l : Printing). l.piece) e, ap (λ (l : Printing). l.desk) e, ap (λ (l : Printing). l.out) e)

pub log_run-once : LogRunOnce
log_run-once b log at count out r r' after after' out₁ out₂ p q =
    let e = p ∙ sym q in
    (ap (λ (l : RunSettled). l.ran) e, ap (λ (l : RunSettled). l.desk) e, ap (λ (l : RunSettled). l.out) e)

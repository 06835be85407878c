-- What rows 20 to 22 leave to be relied on, and the code's numbers.
use Prim.Native.Nat.{ℕ, ◌≤◌, ◌<◌}
use mathlib.Core.Path.{◌≡◌, refl, ap, sym, ◌∙◌}
use mathlib.Core.Bool.{Bool, true, false, cond, not, ◌&&◌}
use native.Mathlib.Omega.{arith}
use lib.Dec.{eqb, ltb}
use borrow.Author.Tests.{lt-ltb, le-ltb, eq-eqb, ne_eqb, eqb-true, ltb-false, not-false}
use Rattle.lists.specs.Each.{Each}
use Rattle.lists.proofs.Tests.{◌and◌, by_test}
use Rattle.tables.specs.Refusals.{Row, all_error, accept, verdict, none}
use Rattle.tables.proofs.Exactly.{none-held}
use Rattle.tables.proofs.Numbers.{number-accepted}
use Rattle.wire.specs.declared.MessageSegment.{MessageSegment}
use Rattle.wire.specs.Type11.{is_single, is_last}
use Rattle.sizes.specs.Sizes.{bytes_of, in_eights}
use Rattle.sizes.proofs.Laws.{eights_le}
use Rattle.rules.specs.Messages.{reserved_size, bad_length, past_last, form_rows, judged, last_with}
use Rattle.rules.specs.Inside.{Sound}

pub raw_le : (m : MessageSegment) → bad_length m ≡ false → m.raw ≤ bytes_of m.ssize
unfolding bad_length
raw_le m = go (is_last m)
  where
    go : (b : Bool) → cond b (not (in_eights m.raw (bytes_of m.ssize))) (not (eqb m.raw (bytes_of m.ssize))) ≡ false → m.raw ≤ bytes_of m.ssize
    go true e = eights_le m.raw (bytes_of m.ssize) (not-false _ e)
    go false e = omega (arith, eqb-true m.raw (bytes_of m.ssize) (not-false _ e))

pub seg_le : (m : MessageSegment) → past_last m ≡ false → is_single m ≡ false → m.msgseg ≤ m.msglen
unfolding past_last
seg_le m e s = ltb-false m.msglen m.msgseg (ap (λ (b : Bool). not b && ltb m.msglen m.msgseg) (sym s) ∙ e)

-- each of these rows has a number, and writes ERROR
some_number : (m : MessageSegment) → Each (λ (r : Row). r.number ≡ 0 → ⊥) (form_rows m)
unfolding form_rows
some_number m = (λ z. omega arith) and (λ z. omega arith) and (λ z. omega arith) and tt

pub writes_error : (m : MessageSegment) → Each (λ (r : Row). r.leaves ≡ all_error) (form_rows m)
unfolding form_rows
writes_error m = refl and refl and refl and tt

-- judged to be fine: no row holds
pub form_passes : (m : MessageSegment) → judged m ≡ 0 → verdict (form_rows m) ≡ accept
unfolding judged
form_passes m e = number-accepted (form_rows m) (some_number m) e

pub sound : (m : MessageSegment) → judged m ≡ 0 → Sound m
unfolding form_rows none
sound m e =
    let rows = none-held (form_rows m) (form_passes m e) in
    record { rows = e; fits = raw_le m rows.1.0; past = seg_le m rows.1.1.0 }

pub judged-fine : (m : MessageSegment) → reserved_size m ≡ false → bad_length m ≡ false → past_last m ≡ false → judged m ≡ 0
unfolding judged form_rows verdict
judged-fine m a b d = rw (a, b, d)

-- the code's numbers are these
pub judge_size : (m : MessageSegment) → bytes_of m.ssize ≡ 0 → 20 ≡ judged m
unfolding judged form_rows verdict reserved_size
judge_size m a = rw (eq-eqb (bytes_of m.ssize) 0 a)

pub judge_length : (m : MessageSegment) → (bytes_of m.ssize ≡ 0 → ⊥) → bad_length m ≡ true → 21 ≡ judged m
unfolding judged form_rows verdict reserved_size
judge_length m a e = rw (ne_eqb (bytes_of m.ssize) 0 a, e)

-- a last segment is never past the last
last_inside : (m : MessageSegment) → is_last m ≡ true → past_last m ≡ false
unfolding past_last
last_inside m e =
    by_test (is_single m)
    (λ t. rw t)
    (λ t. rw t (le-ltb m.msglen m.msgseg (omega (arith, eqb-true m.msgseg m.msglen (rw t at e)))))

pub judge_last : (m : MessageSegment) → (bytes_of m.ssize ≡ 0 → ⊥) → bad_length m ≡ false → is_last m ≡ true → 0 ≡ judged m
unfolding reserved_size
judge_last m a e l = sym (judged-fine m (ne_eqb (bytes_of m.ssize) 0 a) e (last_inside m l))

pub judge_past : (m : MessageSegment) → (bytes_of m.ssize ≡ 0 → ⊥) → bad_length m ≡ false → (m.msglen ≡ 0 → ⊥) → m.msglen < m.msgseg → 22 ≡ judged m
unfolding judged form_rows verdict reserved_size past_last
judge_past m a e s h = rw (ne_eqb (bytes_of m.ssize) 0 a, e, ne_eqb m.msglen 0 s, lt-ltb m.msglen m.msgseg h)

pub judge_none : (m : MessageSegment) → (bytes_of m.ssize ≡ 0 → ⊥) → bad_length m ≡ false → (m.msglen ≡ 0 → ⊥) → m.msgseg ≤ m.msglen → 0 ≡ judged m
unfolding judged form_rows verdict reserved_size past_last
judge_none m a e s h = rw (ne_eqb (bytes_of m.ssize) 0 a, e, ne_eqb m.msglen 0 s, le-ltb m.msglen m.msgseg h)

pub last_with_le : (m : MessageSegment) (last : ℕ) → last ≤ 256 → m.raw ≤ 256 → last_with m last ≤ 256
last_with_le m last h r = go (eqb m.msgseg m.msglen)
  where
    go : (b : Bool) → cond b m.raw last ≤ 256
    go true = r
    go false = h

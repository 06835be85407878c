-- A type 11 packet leaves a state that 19 does not name, where it found one.
use Prim.Native.Nat.{ℕ, ◌<◌, ◌+◌, ◌^◌}
use mathlib.Core.Path.{◌≡◌, ap, ap₂, sym, ◌∙◌, subst}
use mathlib.Core.List.{List}
use mathlib.Core.Bool.{true, false, cond, not}
use native.Mathlib.Omega.{arith}
use native.Mathlib.Decide.{ℕ_discrete}
use lib.Dec.{eqb}
use lib.ListN.{length}
use lib.Pow.{pow_pos}
use borrow.Author.Tests.{eqb-false, eqb-true, eq-eqb, ne_eqb, ltb-true, not-false}
use Rattle.lists.proofs.Tests.{by_test, neither}
use Rattle.wire.specs.declared.MessageSegment.{MessageSegment}
use Rattle.wire.specs.Type11.{is_single}
use Rattle.sizes.specs.Sizes.{bytes_of, in_eights}
use Rattle.contexts.specs.declared.MessageContext.{MessageContext}
use Rattle.contexts.specs.State.{State, message_contexts, message_in, closed_message, message_context, free_message}
use Rattle.marks.specs.Marks.{marked}
use Rattle.refusal19.specs.Refusal19.{bad_last, named_by_19}
use Rattle.marks.proofs.Bits.{mark_set, mark_other}
use Rattle.refusal19.proofs.Good.{Message, good, message_found_lem}
use Rattle.refusal19.proofs.Kept.{closed_message_lem, kept_message, message_kept}
use Rattle.marks.proofs.Marks.{room_for_mark, nothing-marked}
use Rattle.message_rooms.specs.Placing.{message_placed, kept, complete, marks_with}
use Rattle.messages.specs.Rows.{message_found, message_open, other_message, already_marked}
use Rattle.messages.specs.Joining.{message_accepted, delivered_at_once}
use Rattle.rules.specs.Messages.{reserved_size, bad_length, past_last, last_with}
use Rattle.rules.proofs.Laws.{seg_le}

-- the kept length of the last segment, with this segment
last_kept : (m : MessageSegment) (marks last : ℕ) → is_single m ≡ false → marked marks m.msgseg ≡ false → bad_length m ≡ false → bad_last (kept m marks last) ≡ false
    → bad_last (kept m (marks_with m marks) (last_with m last)) ≡ false
unfolding bad_last bad_length
last_kept m marks last several unset right before = go (ℕ_discrete m.msgseg m.msglen)
  where
    go : Dec (m.msgseg ≡ m.msglen)
        → cond (marked (marks_with m marks) m.msglen) (not (in_eights (last_with m last) (bytes_of m.ssize))) (not (eqb (last_with m last) 0)) ≡ false
    go (yes e) =
        let set_now : marked (marks_with m marks) m.msglen ≡ true = ap (marked (marks_with m marks)) (sym e) ∙ mark_set marks m.msgseg unset in
        let same : eqb m.msgseg m.msglen ≡ true = eq-eqb m.msgseg m.msglen e in
        let ends : not (in_eights m.raw (bytes_of m.ssize)) ≡ false = rw (several, same) at right in
        rw (set_now, same) ends
    go (no e) =
        let same_mark : marked (marks_with m marks) m.msglen ≡ marked marks m.msglen = mark_other marks m.msgseg unset m.msglen (λ q. e (sym q)) in
        rw (same_mark, ne_eqb m.msgseg m.msglen e) before

-- a segment placed with marks that leave it out
placed-kept : (s : State) (memory response p : List ℕ) (m : MessageSegment) (n marks last : ℕ) → named_by_19 s ≡ false
    → is_single m ≡ false → m.msglen < 16 → reserved_size m ≡ false → bad_length m ≡ false → past_last m ≡ false
    → marks < 2 ^ (m.msglen + 1) → marked marks m.msgseg ≡ false → bad_last (kept m marks last) ≡ false
    → named_by_19 (message_placed s memory response p m n marks last).state ≡ false
unfolding message_placed reserved_size
placed-kept s memory response p m n marks last fine several few size right past inside unset before =
    message_kept s n _ fine
    (by_test (complete m (marks_with m marks)) (λ c. rw c closed_message_lem)
    (λ c. rw c
    (kept_message (kept m (marks_with m marks) (last_with m last)) (eqb-false (bytes_of m.ssize) 0 size) (eqb-false m.msglen 0 several) (omega arith)
    (room_for_mark marks m.msgseg (m.msglen + 1) inside (omega (arith, seg_le m past several)) unset)
    (λ z. omega (arith, pow_pos m.msgseg)) c (last_kept m marks last several unset right before))))

module _ (s : State) (memory response p : List ℕ) (m : MessageSegment) (fine : named_by_19 s ≡ false) (eight : length s.messages ≡ message_contexts) (few : m.msglen < 16)
    (size : reserved_size m ≡ false) (right : bad_length m ≡ false) (past : past_last m ≡ false) where
  alone-kept : (n : ℕ) → named_by_19 (delivered_at_once s memory response p m n).state ≡ false
  unfolding delivered_at_once
  alone-kept n = message_kept s n closed_message fine closed_message_lem

  new-kept : is_single m ≡ false → (n : ℕ) → named_by_19 (message_placed s memory response p m n 0 0).state ≡ false
  unfolding bad_last
  new-kept several n =
      placed-kept s memory response p m n 0 0 fine several few size right past (pow_pos (m.msglen + 1)) (nothing-marked m.msgseg) (rw (nothing-marked m.msglen))

  -- one more segment of an open message
  module _ (several : is_single m ≡ false) (o : message_open s m ≡ true) where
    abbrev own : MessageContext
    own = message_in s (message_found s m)

    found-is : message_found s m ≡ message_context s m.source m.letter m.mbox
    unfolding message_found
    found-is = rw several

    own-good : Message own
    own-good =
        let within : message_found s m < message_contexts = ltb-true (message_found s m) message_contexts o in
        rw found-is (message_found_lem s m.source m.letter m.mbox (good s fine) (omega (arith, found-is)))

    same_form : other_message s m ≡ false → (own.msglen ≡ m.msglen) × (own.ssize ≡ m.ssize)
    unfolding other_message
    same_form e =
        let a = neither (not (eqb own.msglen m.msglen)) (not (eqb own.ssize m.ssize)) (rw o at e) in
        (eqb-true own.msglen m.msglen (not-false _ a.0), eqb-true own.ssize m.ssize (not-false _ a.1))

    unmarked : already_marked s m ≡ false → marked own.marks m.msgseg ≡ false
    unfolding already_marked
    unmarked e = rw o at e

    kept_last : own.msglen ≡ m.msglen → own.ssize ≡ m.ssize → bad_last (kept m own.marks own.last) ≡ false
    unfolding bad_last
    kept_last l z =
        ap₂ (λ (l z : ℕ). cond (marked own.marks l) (not (in_eights own.last (bytes_of z))) (not (eqb own.last 0))) (sym l) (sym z) ∙ own-good.kept

    more-kept : other_message s m ≡ false → already_marked s m ≡ false → named_by_19 (message_placed s memory response p m (message_found s m) own.marks own.last).state ≡ false
    more-kept other unset =
        let same = same_form other in
        placed-kept s memory response p m (message_found s m) own.marks own.last fine several few size right past
        (subst (λ (l : ℕ). own.marks < 2 ^ (l + 1)) same.0 own-good.inside) (unmarked unset) (kept_last same.0 same.1)

  pub accepted-kept : other_message s m ≡ false → already_marked s m ≡ false → named_by_19 (message_accepted s memory response p m).state ≡ false
  unfolding message_accepted
  accepted-kept other unset =
      by_test (is_single m) (λ t. rw t (alone-kept (free_message s)))
      (λ t. by_test (message_open s m) (λ o. rw (t, o) (more-kept t o other unset)) (λ o. rw (t, o) (new-kept t (free_message s))))

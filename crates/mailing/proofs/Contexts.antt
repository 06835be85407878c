-- Which message context is the message's, which is free, and which answers are of it.
use Prim.Native.Nat.{ℕ, zero, suc, ◌%◌, ◌<◌}
use mathlib.Core.Path.{◌≡◌, refl, ap}
use mathlib.Core.List.{List, [], ◌∷◌}
use mathlib.Core.Bool.{Bool, true, false, cond, not, and-false}
use native.Mathlib.Omega.{arith}
use lib.ListN.{length, set}
use lib.Dec.{eqb}
use borrow.Author.Tests.{eq-eqb, eqb-true}
use Rattle.lists.specs.First.{first_of}
use Rattle.lists.proofs.Tests.{both}
use Rattle.answers.specs.Answers.{Said, held, delivered, message, refused}
use Rattle.wire.specs.declared.MessageSegment.{MessageSegment}
use Rattle.contexts.specs.declared.MessageContext.{MessageContext}
use Rattle.contexts.specs.State.{closed_message, is_free_message, is_of_message}
use Rattle.message_rooms.specs.Placing.{kept}
use Rattle.mailing.specs.Mail.{Posted, mbox_of, mail_segment}
use Rattle.mailing.specs.Run.{is_name}

-- an open context of the message
abbrev pub is_mine : Posted → MessageContext → Bool
is_mine x = is_of_message x.mail.source x.mail.letter (mbox_of x)

-- an answer that delivers a message of its source, letter and mbox
abbrev pub is_told_of : Posted → Said → Bool
is_told_of x (message context source letter mailbox size) = is_name x source letter (mailbox % 4)
is_told_of x held = false
is_told_of x (delivered context flow stream size) = false
is_told_of x (refused number) = false

module _ (x : Posted) where
  -- as the message's segments keep it
  pub kept_mine : (k marks last : ℕ) → is_mine x (kept (mail_segment x k) marks last) ≡ true
  unfolding is_of_message is_free_message
  kept_mine k marks last = rw (eq-eqb x.mail.source x.mail.source refl, eq-eqb x.mail.letter x.mail.letter refl, eq-eqb (mbox_of x) (mbox_of x) refl)

  -- a free context is no message's
  pub free_none : (c : MessageContext) → is_free_message c ≡ true → is_mine x c ≡ false
  unfolding is_of_message
  free_none c e = rw e

  pub closed_none : is_mine x closed_message ≡ false
  unfolding is_of_message is_free_message
  closed_none = refl

  -- another message's context is not this one's
  module _ (m : MessageSegment) (other : is_name x m.source m.letter m.mbox ≡ false) where
    pub kept_other : (marks last : ℕ) → is_mine x (kept m marks last) ≡ false
    unfolding is_of_message is_free_message
    kept_other marks last = other

    pub found_other : (c : MessageContext) → is_of_message m.source m.letter m.mbox c ≡ true → is_mine x c ≡ false
    unfolding is_of_message is_free_message
    found_other c e =
        let a = both (not (is_free_message c)) _ e in
        let b = both (eqb c.source m.source) _ a.1 in
        let d = both (eqb c.letter m.letter) _ b.1 in
        rw (eqb-true c.source m.source b.0, eqb-true c.letter m.letter d.0, eqb-true c.mbox m.mbox d.1, other) (and-false (not (is_free_message c)))

-- where none passes, the one that is put there is the first
pub first_new : {A : Type 0} (p : A → Bool) (l : List A) (i : ℕ) (y : A) → first_of p l ≡ length l → i < length l → p y ≡ true → first_of p (set l i y) ≡ i
unfolding first_of
first_new p [] i y none h e = absurd (omega arith)
first_new p (a ∷ l) zero y none h e = rw e
first_new {A} p (a ∷ l) (suc i) y none h e = go (p a) none (λ n. first_new p l i y n (omega arith) e)
  where
    go : (b : Bool) → cond b zero (suc (first_of p l)) ≡ suc (length l) → (first_of p l ≡ length l → first_of p (set l i y) ≡ i) → cond b zero (suc (first_of p (set l i y))) ≡ suc i
    go true n ih = absurd (omega arith)
    go false n ih = ap suc (ih (omega arith))

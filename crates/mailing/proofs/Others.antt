-- A packet of another message leaves this one's context and room as they are, by the state and the message memory alone: it writes into a
-- context that is free or of its own message, and into that context's room.
use Prim.Native.Nat.{ℕ, ◌+◌, ◌*◌, ◌%◌, ◌≤◌, ◌<◌}
use mathlib.Core.Path.{◌≡◌, refl, ap, sym, ◌∙◌, subst}
use mathlib.Core.List.{List}
use mathlib.Core.Bool.{Bool, true, false, cond, true≢false}
use native.Mathlib.Omega.{arith}
use native.Mathlib.Nat.{add-zero}
use native.Mathlib.Decide.{dec_lt}
use lib.ListN.{length, get_or, take, drop, set, length-drop}
use lib.Seq.{get_or-set_other}
use borrow.Author.Tests.{ltb-true}
use Rattle.lists.specs.Bytes.{written}
use Rattle.lists.specs.First.{first_of}
use Rattle.lists.proofs.First.{first_passes}
use Rattle.answers.specs.Answers.{held, message}
use Rattle.wire.specs.declared.MessageSegment.{MessageSegment}
use Rattle.wire.specs.Type11.{message_data_from, is_single, mailbox}
use Rattle.sizes.specs.Sizes.{bytes_of}
use Rattle.sizes.proofs.Laws.{bytes_le}
use Rattle.contexts.specs.declared.MessageContext.{MessageContext}
use Rattle.contexts.specs.State.{State, ids_in, message_in, with_message, closed_message, is_free_message, is_of_message, message_context, free_message}
use Rattle.rules.specs.Messages.{last_with}
use Rattle.message_rooms.specs.Placing.{MessageJoined, message_data, kept, complete, marks_with, context_with, message_placed}
use Rattle.message_rooms.proofs.Laws.{product_le}
use Rattle.messages.specs.Rows.{message_found, message_open, needed_none_free}
use Rattle.messages.specs.Joining.{delivered_at_once, message_accepted, refused_with, message_stepped}
use Rattle.messages.proofs.Laws.{step_cases}
use Rattle.lists.proofs.Tests.{by_test}
use Rattle.flows.proofs.Contexts.{first_set}
use Rattle.flows.proofs.Quiet.{free_there, single_shut}
use Rattle.mailing.specs.Mail.{Posted}
use Rattle.mailing.specs.Run.{is_name}
use Rattle.mailing.proofs.Rooms.{before_stays, behind_stays}
use Rattle.mailing.proofs.Contexts.{is_mine, is_told_of, free_none, closed_none, kept_other, found_other}

-- ---- What stays

-- the message's context is found where it was, and it and its room are as they were
pub record Stays (x : Posted) (s : State) (memory : List ℕ) (s' : State) (memory' : List ℕ) : Type 0 where
  pub found : first_of (is_mine x) s'.messages ≡ first_of (is_mine x) s.messages
  pub context : (n : ℕ) → is_mine x (message_in s n) ≡ true → message_in s' n ≡ message_in s n
  pub room : (n from size : ℕ) → is_mine x (message_in s n) ≡ true → n * 4096 ≤ from → from + size ≤ n * 4096 + 4096 → take size (drop from memory') ≡ take size (drop from memory)

-- where contexts and message memory stay, it does
pub all_stays : (x : Posted) (s s' : State) (memory : List ℕ) → s'.messages ≡ s.messages → Stays x s memory s' memory
all_stays x s s' memory e = record {
  found = ap (first_of (is_mine x)) e;
  context = λ n h. ap (λ (cs : List MessageContext). get_or cs n closed_message) e;
  room = λ n from size h a b. refl;
}

-- ---- A context that is not the message's, and bytes written into its room

module _ (x : Posted) (s : State) (memory : List ℕ) (size : length memory ≡ 32768) (i : ℕ) (lt : i < 8) (not_mine : is_mine x (message_in s i) ≡ false)
    (c : MessageContext) (c_not : is_mine x c ≡ false) (off : ℕ) (bytes : List ℕ) (fits : off + length bytes ≤ 4096) (s' : State) (put : s'.messages ≡ set s.messages i c) where
  apart : (n : ℕ) → is_mine x (message_in s n) ≡ true → n ≡ i → ⊥
  apart n h e = true≢false (sym h ∙ (ap (λ (j : ℕ). is_mine x (message_in s j)) e ∙ not_mine))

  inside : i * 4096 + off + length bytes ≤ length memory
  inside = omega arith

  put_stays : Stays x s memory s' (written memory (i * 4096 + off) bytes)
  put_stays = record {
    found = ap (first_of (is_mine x)) put ∙ first_set (is_mine x) closed_message s.messages i c (not_mine ∙ sym c_not);
    context = λ n h. ap (λ (cs : List MessageContext). get_or cs n closed_message) put ∙ get_or-set_other s.messages i n c closed_message (apart n h);
    room = λ n from size h a b. go n from size (apart n h) a b (dec_lt n i);
  }
    where
      go : (n from size : ℕ) → (n ≡ i → ⊥) → n * 4096 ≤ from → from + size ≤ n * 4096 + 4096 → Dec (n < i)
          → take size (drop from (written memory (i * 4096 + off) bytes)) ≡ take size (drop from memory)
      go n from size ne a b (yes l) = before_stays memory bytes (i * 4096 + off) inside from size (omega arith)
      go n from size ne a b (no l) = behind_stays memory bytes (i * 4096 + off) inside from size (omega arith)

-- ---- A packet of another message

-- nothing of the message changes, and no message of its source, letter and mbox is delivered
pub record Undisturbed (x : Posted) (s : State) (memory : List ℕ) (j : MessageJoined) : Type 0 where
  pub stays : Stays x s memory j.state j.memory
  pub silent : is_told_of x j.says ≡ false

module _ (x : Posted) (s : State) (eight : length s.messages ≡ 8) (memory : List ℕ) (size : length memory ≡ 32768) (response p : List ℕ) (m : MessageSegment)
    (other : is_name x m.source m.letter m.mbox ≡ false) (whole : message_data_from (ids_in s) + m.raw ≡ length p) (number : m.msgseg < 16) (mbox : m.mbox < 4) where
  undisturbed_refused : (code status : ℕ) → Undisturbed x s memory (refused_with s memory response p code status)
  unfolding refused_with
  undisturbed_refused code status = record { stays = all_stays x s s memory refl; silent = refl }

  -- a delivery has its own name
  own-mbox : mailbox m % 4 ≡ m.mbox
  own-mbox = go (is_single m)
    where
      go : (b : Bool) → cond b (4 * m.msgseg + m.mbox) m.mbox % 4 ≡ m.mbox
      go true = omega arith
      go false = omega arith

  own_name : (n count : ℕ) → is_told_of x (message n m.source m.letter (mailbox m) count) ≡ false
  own_name n count = rw own-mbox other

  data_length_lem : length (message_data (ids_in s) p) ≡ m.raw
  data_length_lem = length-drop (message_data_from (ids_in s)) p ∙ omega arith

  module _ (fits : m.raw ≤ bytes_of m.ssize) (n : ℕ) (lt : n < 8) (not_mine : is_mine x (message_in s n) ≡ false) where
    undisturbed_alone : Undisturbed x s memory (delivered_at_once s memory response p m n)
    unfolding delivered_at_once
    undisturbed_alone = record {
      stays =
          subst (λ (at : ℕ). Stays x s memory (with_message s n closed_message) (written memory at (message_data (ids_in s) p))) (add-zero (n * 4096))
          (put_stays x s memory size n lt not_mine closed_message (closed_none x) 0 (message_data (ids_in s) p) (omega (arith, data_length_lem, bytes_le m.ssize)) (with_message s n closed_message) refl);
      silent = own_name n m.raw;
    }

    undisturbed_placed : (marks last : ℕ) → Undisturbed x s memory (message_placed s memory response p m n marks last)
    unfolding message_placed
    undisturbed_placed marks last =
        let context : MessageContext = context_with m (marks_with m marks) (last_with m last) in
        record {
          stays =
              put_stays x s memory size n lt not_mine context (not_kept (complete m (marks_with m marks)) (marks_with m marks) (last_with m last)) (m.msgseg * bytes_of m.ssize) (message_data (ids_in s) p)
              (omega (arith, data_length_lem, product_le m.msgseg (bytes_of m.ssize) number (bytes_le m.ssize), bytes_le m.ssize)) (with_message s n context) refl;
          silent = told (complete m (marks_with m marks)) _;
        }
      where
        not_kept : (b : Bool) (marks last : ℕ) → is_mine x (cond b closed_message (kept m marks last)) ≡ false
        not_kept true marks last = closed_none x
        not_kept false marks last = kept_other x m other marks last

        told : (b : Bool) (count : ℕ) → is_told_of x (cond b (message n m.source m.letter (mailbox m) count) held) ≡ false
        told true count = own_name n count
        told false count = refl

  -- where it is put: a free context, or one of its own message
  free_not : free_message s < 8 → is_mine x (message_in s (free_message s)) ≡ false
  unfolding free_message
  free_not h = free_none x (message_in s (free_message s)) (first_passes is_free_message s.messages closed_message (omega arith))

  own_not : is_single m ≡ false → message_found s m < 8 → is_mine x (message_in s (message_found s m)) ≡ false
  unfolding message_found message_context
  own_not t h =
      let n : ℕ = first_of (is_of_message m.source m.letter m.mbox) s.messages in
      let below : n < 8 = rw t at h in
      rw t (found_other x m other (message_in s n) (first_passes (is_of_message m.source m.letter m.mbox) s.messages closed_message (omega arith)))

  undisturbed_accepted : m.raw ≤ bytes_of m.ssize → needed_none_free s m ≡ false → Undisturbed x s memory (message_accepted s memory response p m)
  unfolding message_accepted
  undisturbed_accepted fits e =
      by_test (is_single m)
      (λ t. let free = free_there s m e (single_shut s m t) in rw t (undisturbed_alone fits (free_message s) free (free_not free)))
      (λ t. by_test (message_open s m)
      (λ o. let own = ltb-true (message_found s m) 8 o in rw (t, o) (undisturbed_placed fits (message_found s m) own (own_not t own) _ _))
      (λ o. let free = free_there s m e o in rw (t, o) (undisturbed_placed fits (free_message s) free (free_not free) 0 0)))

  pub undisturbed_stepped : Undisturbed x s memory (message_stepped s memory response p m)
  undisturbed_stepped = step_cases s memory response p m (Undisturbed x s memory) undisturbed_refused undisturbed_accepted

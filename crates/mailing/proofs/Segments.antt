-- A segment of the message, by the state and the message memory alone. The invariant of an open message: the segments that came are marked
-- in its context, each lies in its part of the room, and the kept length is the last segment's once that is marked.
use Prim.Native.Nat.{ℕ, ◌+◌, ◌*◌, ◌≤◌, ◌<◌}
use mathlib.Core.Path.{◌≡◌, refl, ap, sym, ◌∙◌}
use mathlib.Core.List.{List}
use mathlib.Core.Bool.{true, false, cond, true≢false}
use native.Mathlib.Omega.{arith}
use native.Mathlib.Decide.{ℕ_discrete}
use lib.ListN.{length, take, drop, set}
use lib.Seq.{get_or-set_same, take_all}
use lib.Dec.{eqb}
use native.Mathlib.Nat.{zero-mul}
use borrow.Author.Tests.{eq-eqb, ne_eqb, eqb-true}
use Rattle.lists.specs.Bytes.{written}
use Rattle.lists.specs.First.{first_of}
use Rattle.lists.proofs.Written.{part-written}
use Rattle.answers.specs.Answers.{held, message}
use Rattle.wire.specs.declared.MessageSegment.{MessageSegment}
use Rattle.wire.specs.Type11.{mailbox}
use Rattle.responses.specs.Type13.{DONE, answered}
use Rattle.contexts.specs.declared.MessageContext.{MessageContext}
use Rattle.contexts.specs.State.{State, ids_in, message_in, with_message, closed_message, message_context, free_message}
use Rattle.marks.specs.Marks.{marked, with_mark, all_marked}
use Rattle.marks.proofs.Bits.{mark_other}
use Rattle.marks.proofs.Marks.{nothing-marked}
use Rattle.rules.specs.Messages.{judged}
use Rattle.message_rooms.specs.Placing.{MessageJoined, message_joining, message_data, kept, message_placed}
use Rattle.messages.specs.Joining.{delivered_at_once, message_stepped}
use Rattle.messages.proofs.Laws.{alone_taken, begin_placed, join_placed}
use Rattle.flows.proofs.Contexts.{first_set}
use Rattle.mailing.specs.Mail.{Posted, segment_size, msglen_of, data_at, is_alone, mbox_of, mail_segment, mail_answer}
use Rattle.mailing.proofs.Sizes.{Sized, length_last}
use Rattle.mailing.proofs.Rooms.{Filled, filled_next, all_filled, fits-room}
use Rattle.mailing.proofs.Contexts.{is_mine, kept_mine, first_new}

-- ---- The invariant

-- what is in, by marks and kept length
record In (x : Posted) (memory : List ℕ) (n marks last : ℕ) : Type 0 where
  last-is : marked marks (msglen_of x) ≡ true → last ≡ length (data_at x (msglen_of x))
  filled : Filled x memory (n * 4096) marks

-- the message is open in context n
pub record Open (x : Posted) (s : State) (memory : List ℕ) (n marks last : ℕ) : Type 0 where
  pub below : n < 8
  pub found : message_context s x.mail.source x.mail.letter (mbox_of x) ≡ n
  pub context : message_in s n ≡ kept (mail_segment x 0) marks last
  pub last-is : marked marks (msglen_of x) ≡ true → last ≡ length (data_at x (msglen_of x))
  pub filled : Filled x memory (n * 4096) marks

-- context n is where it will be found
abbrev Finds : Posted → State → ℕ → Type 0
Finds x s n = (c : MessageContext) → is_mine x c ≡ true → first_of (is_mine x) (set s.messages n c) ≡ n

-- ---- One segment

-- the message is delivered from context n, and DONE written
pub record Delivers (ids : ℕ) (x : Posted) (response p : List ℕ) (n : ℕ) (j : MessageJoined) : Type 0 where
  pub says : j.says ≡ mail_answer x n
  pub room : take (length x.mail.bytes) (drop (n * 4096) j.memory) ≡ x.mail.bytes
  pub done : j.response ≡ answered ids response p DONE

-- the segment is held in context n, and DONE written
pub record Holds (ids : ℕ) (x : Posted) (response p : List ℕ) (n marks last : ℕ) (j : MessageJoined) : Type 0 where
  pub says : j.says ≡ held
  pub stands : Open x j.state j.memory n marks last
  pub done : j.response ≡ answered ids response p DONE

module _ (x : Posted) (z : Sized x) (s : State) (eight : length s.messages ≡ 8) (memory : List ℕ) (size : length memory ≡ 32768) (response p : List ℕ) (k : ℕ)
    (below : k ≤ msglen_of x) (box : mailbox (mail_segment x k) ≡ x.mail.mailbox) (bytes : message_data (ids_in s) p ≡ data_at x k) where
  abbrev m : MessageSegment
  m = mail_segment x k

  room-inside : (n : ℕ) → n < 8 → n * 4096 + 4096 ≤ length memory
  room-inside n h = omega arith

  -- one of several
  module _ (several : is_alone x ≡ false) (n marks last : ℕ) (lt : n < 8) (finds : Finds x s n) (before : In x memory n marks last) (unset : marked marks k ≡ false) where
    abbrev j : MessageJoined
    j = message_placed s memory response p m n marks last

    abbrev marks' : ℕ
    marks' = with_mark marks k

    abbrev last' : ℕ
    last' = cond (eqb k (msglen_of x)) (length (data_at x k)) last

    now : In x (written memory (n * 4096 + k * segment_size x) (data_at x k)) n marks' last'
    now = record {
      last-is = go (ℕ_discrete k (msglen_of x));
      filled = filled_next x z memory (n * 4096) marks k (room-inside n lt) below unset before.filled;
    }
      where
        go : Dec (k ≡ msglen_of x) → marked marks' (msglen_of x) ≡ true → last' ≡ length (data_at x (msglen_of x))
        go (yes e) t = rw (eq-eqb k (msglen_of x) e) (ap (λ (i : ℕ). length (data_at x i)) e)
        go (no e) t = rw (ne_eqb k (msglen_of x) e) (before.last-is (sym (mark_other marks k unset (msglen_of x) (λ q. e (sym q))) ∙ t))

    -- the segment's own number and mailbox
    placed_is : j
        ≡ message_joining (cond (all_marked marks' (msglen_of x + 1)) (message n x.mail.source x.mail.letter (mailbox m) (msglen_of x * segment_size x + last')) held)
        (with_message s n (cond (all_marked marks' (msglen_of x + 1)) closed_message (kept m marks' last')))
        (written memory (n * 4096 + k * segment_size x) (data_at x k))
        (answered (ids_in s) response p DONE)
    unfolding message_placed
    placed_is = rw (several, bytes)

    delivered : ((i : ℕ) → i ≤ msglen_of x → marked marks' i ≡ true) → all_marked marks' (msglen_of x + 1) ≡ true → Delivers (ids_in s) x response p n j
    delivered all e =
        let length_is : msglen_of x * segment_size x + last' ≡ length x.mail.bytes =
        omega (arith, now.last-is (all (msglen_of x) (omega arith)), length_last x z, z.begins) in
        rw (placed_is, e) (record {
          says = rw (box, length_is);
          room = all_filled x z (written memory (n * 4096 + k * segment_size x) (data_at x k)) (n * 4096) marks' all now.filled;
          done = refl;
        })

    held_open : all_marked marks' (msglen_of x + 1) ≡ false → Holds (ids_in s) x response p n marks' last' j
    unfolding message_context
    held_open e =
        rw (placed_is, e) (record {
          says = refl;
          stands = record {
            below = lt;
            found = finds (kept m marks' last') (kept_mine x k marks' last');
            context = get_or-set_same s.messages n (kept m marks' last') closed_message (omega arith);
            last-is = now.last-is;
            filled = now.filled;
          };
          done = refl;
        })

  -- ---- the step: by what is open

  abbrev step : MessageJoined
  step = message_stepped s memory response p m

  module _ (sound : judged m ≡ 0) where
    -- the only segment
    module _ (alone : is_alone x ≡ true) (free : free_message s < 8) where
      only_is : step ≡ delivered_at_once s memory response p m (free_message s)
      only_is = sym (alone_taken s memory response p m sound alone free)

      whole : data_at x k ≡ x.mail.bytes
      unfolding data_at
      whole =
          let none : msglen_of x ≡ 0 = eqb-true (msglen_of x) 0 alone in
          let first : k ≡ 0 = omega arith in
          rw (first, zero-mul (segment_size x)) (take_all (segment_size x) x.mail.bytes (omega (arith, z.ends, ap (λ (i : ℕ). i * segment_size x) none, zero-mul (segment_size x))))

      pub only : Delivers (ids_in s) x response p (free_message s) step
      unfolding delivered_at_once
      only =
          rw (only_is, bytes, whole) (record {
            says = rw box;
            room = part-written memory x.mail.bytes (free_message s * 4096) (omega (arith, room-inside (free_message s) free, fits-room x z));
            done = refl;
          })

    module _ (several : is_alone x ≡ false) where
      -- the first that comes
      module _ (none : message_context s x.mail.source x.mail.letter (mbox_of x) ≡ 8) (free : free_message s < 8) where
        first-is : step ≡ message_placed s memory response p m (free_message s) 0 0
        first-is = sym (begin_placed s memory response p m sound several (omega arith) free)

        first_finds : Finds x s (free_message s)
        unfolding message_context
        first_finds c e = first_new (is_mine x) s.messages (free_message s) c (none ∙ sym eight) (omega arith) e

        nothing : In x memory (free_message s) 0 0
        nothing = record {
          last-is = λ t. absurd (true≢false (sym t ∙ nothing-marked (msglen_of x)));
          filled = λ i h t. absurd (true≢false (sym t ∙ nothing-marked i));
        }

        pub first : all_marked (with_mark 0 k) (msglen_of x + 1) ≡ false
            → Holds (ids_in s) x response p (free_message s) (with_mark 0 k) (cond (eqb k (msglen_of x)) (length (data_at x k)) 0) step
        first e = rw first-is (held_open several (free_message s) 0 0 free first_finds nothing (nothing-marked k) e)

      -- one more of an open message
      module _ (n marks last : ℕ) (o : Open x s memory n marks last) (unset : marked marks k ≡ false) where
        abbrev own : MessageContext
        own = kept (mail_segment x 0) marks last

        next-is : step ≡ message_placed s memory response p m n marks last
        next-is =
            let n-is : message_context s x.mail.source x.mail.letter (mbox_of x) ≡ n = o.found in
            let same : own ≡ message_in s (message_context s x.mail.source x.mail.letter (mbox_of x)) = sym (ap (message_in s) n-is ∙ o.context) in
            sym (ap (λ (i : ℕ). message_placed s memory response p m i marks last) (sym n-is)
            ∙ join_placed s memory response p m sound several own (omega (arith, n-is, o.below)) same refl refl (rw several unset))

        next_finds : Finds x s n
        unfolding message_context
        next_finds c e = first_set (is_mine x) closed_message s.messages n c (ap (is_mine x) o.context ∙ (kept_mine x 0 marks last ∙ sym e)) ∙ o.found

        so_far : In x memory n marks last
        so_far = record { last-is = o.last-is; filled = o.filled }

        pub next : all_marked (with_mark marks k) (msglen_of x + 1) ≡ false → Holds (ids_in s) x response p n (with_mark marks k) (cond (eqb k (msglen_of x)) (length (data_at x k)) last) step
        next e = rw next-is (held_open several n marks last o.below next_finds so_far unset e)

        pub final : ((i : ℕ) → i ≤ msglen_of x → marked (with_mark marks k) i ≡ true) → all_marked (with_mark marks k) (msglen_of x + 1) ≡ true → Delivers (ids_in s) x response p n step
        final all e = rw next-is (delivered several n marks last o.below next_finds so_far unset all e)

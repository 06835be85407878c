-- A message is delivered exactly if the count of ones of its marks is msglen+1.
use Prim.Native.Nat.{ℕ, ◌≤◌, ◌<◌, ◌+◌, ◌^◌}
use mathlib.Core.Path.{◌≡◌, refl, ap, sym, subst, ◌∙◌}
use mathlib.Core.Bool.{true, false, cond, not, true≢false}
use native.Mathlib.Omega.{arith}
use native.Mathlib.Decide.{dec_lt}
use lib.Dec.{eqb}
use lib.ListN.{length, get_or-eq_default}
use lib.Pow.{pow_pos}
use borrow.Author.Tests.{eqb-true, eqb-false, ltb-true, not-false, not-true}
use Rattle.lists.proofs.Tests.{by_test, neither, both, not-second}
use Rattle.tables.specs.Refusals.{none, number_of}
use Rattle.tables.proofs.Exactly.{accepted}
use Rattle.answers.specs.Answers.{refused}
use Rattle.wire.specs.declared.MessageSegment.{MessageSegment}
use Rattle.wire.specs.Packet.{packet_type}
use Rattle.wire.specs.Head.{is9, head_rows}
use Rattle.wire.specs.Parsed.{Parsed, Message, parsed}
use Rattle.wire.specs.Type11.{is_single}
use Rattle.marks.specs.Marks.{marked, all_marked, counted_complete}
use Rattle.marks.proofs.Marks.{room_for_mark, none-past, nothing-marked}
use Rattle.marks.proofs.Ones.{counted, one_of-several}
use Rattle.contexts.specs.declared.MessageContext.{MessageContext}
use Rattle.contexts.specs.State.{State, ids_in, message_in, message_context, message_contexts, free_message, is_free_message, closed_message}
use Rattle.contexts.specs.Words.{state_words}
use Rattle.refusal19.specs.Refusal19.{named_by_19}
use Rattle.refusal19.proofs.Good.{good, message_holds}
use Rattle.rules.specs.Messages.{form_rows, judged}
use Rattle.rules.proofs.Laws.{seg_le}
use Rattle.message_rooms.specs.Placing.{message_placed, marks_with}
use Rattle.messages.specs.Rows.{message_found, message_open, other_message, already_marked, needed_none_free}
use Rattle.messages.specs.Joining.{delivered_at_once, message_accepted, message_stepped, refused_with}
use Rattle.messages.proofs.Laws.{matched, found_message}
use Rattle.reading.specs.Table.{Lent, state_in, message_segment_in, is_state_words, wrong_sizes, lent_rows}
use Rattle.reading.specs.Read.{Settled, reading}
use Rattle.reading.proofs.Rows.{by_parsed, by_packet}
use Rattle.counting.specs.Complete.{PassedAllBut25, is_message, marks_in, CompleteByCount, MarksWithin}

module _ (x : Lent) (c : PassedAllBut25 x) where
  abbrev s : State
  s = state_in x

  abbrev m : MessageSegment
  m = message_segment_in x

  -- ---- what is known where the rows have passed

  lent-fine : (length x.desk.words ≡ state_words) × (named_by_19 s ≡ false) × (wrong_sizes x.desk ≡ false)
  unfolding none lent_rows
  lent-fine =
      let twelve = neither (not (is_state_words x.desk)) (wrong_sizes x.desk) c.lent_passes.1.0 in
      let whole : is_state_words x.desk ≡ true = not-false _ twelve.0 in
      (eqb-true (length x.desk.words) state_words whole, not-second _ _ whole c.lent_passes.0, twelve.1)

  fine : judged m ≡ 0
  unfolding judged
  fine = ap number_of (accepted (form_rows m) c.form_passes)

  not_9 : is9 x.packet ≡ false
  not_9 = rw (eqb-true (packet_type x.packet) 11 c.type_11)

  parsed-is : parsed s.setup x.packet ≡ Message m
  unfolding parsed
  parsed-is = rw (accepted (head_rows s.setup.device (ids_in s) x.packet) c.head_passes, not_9)

  stepped : (reading x).says ≡ (message_stepped s x.desk.message_memory x.desk.response x.packet m).says
  stepped =
      ap (λ (y : Settled). y.says) (by_packet x lent-fine.0 lent-fine.1 lent-fine.2)
      ∙ ap (λ (y : Parsed). (by_parsed x y).says) parsed-is

  -- refused by 25, or what an accepted segment answers
  says_is : (reading x).says ≡ cond (needed_none_free s m) (refused 25) (message_accepted s x.desk.message_memory x.desk.response x.packet m).says
  unfolding refused_with
  says_is =
      stepped ∙ by_test (needed_none_free s m)
      (λ e. rw (matched s x.desk.message_memory x.desk.response x.packet m fine, c.passes_23, c.passes_24, e))
      (λ e. rw (matched s x.desk.message_memory x.desk.response x.packet m fine, c.passes_23, c.passes_24, e))

  -- ---- a message of several segments

  module _ (t : is_single m ≡ false) where
    -- placed in a context with marks that leave this segment out
    placed : (n marks last : ℕ) → marks < 2 ^ (m.msglen + 1) → marked marks m.msgseg ≡ false
        → is_message (message_placed s x.desk.message_memory x.desk.response x.packet m n marks last).says ≡ counted_complete (marks_with m marks) m.msglen
    unfolding message_placed none form_rows
    placed n marks last inside unmarked =
        let here : m.msgseg ≤ m.msglen = seg_le m c.form_passes.1.1.0 t in
        let within : marks_with m marks < 2 ^ (m.msglen + 1) = room_for_mark marks m.msgseg (m.msglen + 1) inside (omega arith) unmarked in
        by_test (all_marked (marks_with m marks) (m.msglen + 1)) (λ e. rw e) (λ e. rw e) ∙ counted (marks_with m marks) m.msglen within

    -- its open context: 19 and 23 have seen to its marks
    abbrev found : MessageContext
    found = message_in s (message_found s m)

    module _ (o : message_open s m ≡ true) where
      found-is : message_found s m ≡ message_context s m.source m.letter m.mbox
      unfolding message_found
      found-is = rw t

      same-msglen : found.msglen ≡ m.msglen
      unfolding other_message
      same-msglen =
          let same = neither (not (eqb found.msglen m.msglen)) _ (not-second _ _ o c.passes_23) in
          eqb-true found.msglen m.msglen (not-false _ same.0)

      unmarked : marked found.marks m.msgseg ≡ false
      unfolding already_marked
      unmarked = not-second _ _ o c.passes_24

      inside : found.marks < 2 ^ (m.msglen + 1)
      inside =
          let at : message_context s m.source m.letter m.mbox < message_contexts = rw (← found-is) (ltb-true (message_found s m) message_contexts o) in
          let holds = found_message s m x.desk.words found refl lent-fine.1 at (ap (message_in s) found-is) in
          subst (λ (l : ℕ). found.marks < 2 ^ (l + 1)) same-msglen holds.inside

    by_count : is_message (reading x).says ≡ counted_complete (marks_in x) m.msglen
    unfolding message_accepted needed_none_free
    by_count =
        by_test (needed_none_free s m)
        (λ e. let shut : message_open s m ≡ false = not-true _ (both _ _ e).0 in
        rw (says_is, e, shut) (sym (one_of-several m.msgseg m.msglen (eqb-false m.msglen 0 t))))
        (λ e. by_test (message_open s m)
        (λ o. rw (says_is, e, t, o) (placed (message_found s m) found.marks found.last (inside o) (unmarked o)))
        (λ o. rw (says_is, e, t, o) (placed (free_message s) 0 0 (pow_pos (m.msglen + 1)) (nothing-marked m.msgseg))))

  -- ---- a message of one

  at_once : is_single m ≡ true → is_message (reading x).says ≡ not (needed_none_free s m)
  unfolding message_accepted delivered_at_once
  at_once t = by_test (needed_none_free s m) (λ e. rw (says_is, e)) (λ e. rw (says_is, e, t))

pub complete_by_count : CompleteByCount
complete_by_count = record { several = by_count; alone = at_once }

-- a context that is not there is a free one
pub marks_within : MarksWithin
unfolding is_free_message
marks_within s fine n busy k past = go (dec_lt n (length s.messages))
  where
    go : Dec (n < length s.messages) → marked (message_in s n).marks k ≡ false
    go (yes h) =
        let holds = message_holds (message_in s n) ((good s fine).messages n h) busy in
        none-past (message_in s n).marks ((message_in s n).msglen + 1) k holds.inside (omega arith)
    go (no h) = absurd (true≢false (sym (ap is_free_message (get_or-eq_default s.messages closed_message (omega arith))) ∙ busy))

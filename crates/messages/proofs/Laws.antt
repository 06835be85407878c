-- Laws of a type 11 step: what each way through the code leaves is what the definition says.
use Prim.Native.Nat.{ℕ, ◌≤◌, ◌<◌, ◌+◌, ◌-◌, ◌*◌}
use mathlib.Core.Path.{◌≡◌, refl, ap, sym, ◌∙◌}
use mathlib.Core.List.{List}
use mathlib.Core.Bool.{Bool, true, false, cond, not, ◌||◌, or-true}
use native.Mathlib.Omega.{arith}
use lib.Dec.{eqb}
use lib.ListN.{length, take, drop}
use borrow.Author.Tests.{lt-ltb, le-ltb, eq-eqb, ne_eqb, eqb-true, not-false}
use Rattle.std.specs.Prelude.{Ok, Err}
use Rattle.refusals.specs.declared.Refusal.{Refusal}
use Rattle.refusals.specs.Numbers.{row_number}
use Rattle.refusals.proofs.Back.{never_0}
use Rattle.lists.specs.Bytes.{written}
use Rattle.lists.proofs.Tests.{◌and◌}
use Rattle.tables.specs.Refusals.{all_error, Verdict, by_verdict, none}
use Rattle.tables.proofs.Cases.{by_row, by_end, whichever}
use Rattle.tables.proofs.Joined.{joined-refuses, joined_passes}
use Rattle.tables.proofs.Numbers.{number_refused}
use Rattle.answers.specs.Answers.{Said, message}
use Rattle.wire.specs.declared.MessageSegment.{MessageSegment}
use Rattle.wire.specs.Type11.{message_data_from, is_single, mailbox}
use Rattle.sizes.specs.Sizes.{bytes_of, in_eights}
use Rattle.responses.specs.Type13.{ERROR, RETRY, DONE, answered}
use Rattle.sizes.proofs.Laws.{bytes_le, eights_le}
use Rattle.contexts.specs.declared.MessageContext.{MessageContext}
use Rattle.contexts.specs.State.{State, ids_in, message_contexts, message_in, with_message, closed_message, message_context, free_message}
use Rattle.marks.specs.Marks.{marked}
use Rattle.refusal19.specs.Refusal19.{bad_last, named_by_19}
use Rattle.contexts.specs.Words.{state_of}
use Rattle.contexts.proofs.Words.{eight}
use Rattle.refusal19.proofs.Good.{Message, good, message_found_lem}
use Rattle.rules.specs.Messages.{form_rows, judged}
use Rattle.rules.proofs.Laws.{raw_le, writes_error, form_passes}
use Rattle.message_rooms.specs.Placing.{MessageJoined, message_joining, message_placed, message_room_bytes}
use Rattle.message_rooms.specs.Inside.{Replied}
use Rattle.message_rooms.proofs.Laws.{data_whole}
use Rattle.messages.specs.Rows.{message_found, message_open, other_message, already_marked, needed_none_free, message_rows}
use Rattle.messages.specs.Joining.{delivered_at_once, message_accepted, refused_with, message_refusing, message_stepped}
use Rattle.messages.specs.declared.Chosen.{Chosen}
use Rattle.messages.specs.Inside.{refusal_by_state, refusal_status, Chooses}

-- the kept length of the last segment
pub last_le : (c : MessageContext) → bad_last c ≡ false → c.last ≤ 256
unfolding bad_last
last_le c = go (marked c.marks c.msglen)
  where
    go : (b : Bool) → cond b (not (in_eights c.last (bytes_of c.ssize))) (not (eqb c.last 0)) ≡ false → c.last ≤ 256
    go true e = omega (arith, eights_le c.last (bytes_of c.ssize) (not-false _ e), bytes_le c.ssize)
    go false e = omega (arith, eqb-true c.last 0 (not-false _ e))

-- ---- a refusal and its response
replying : (s : State) (memory response p : List ℕ) (number status : ℕ) (says : Said) (after : List ℕ)
    → Replied s response p number status says after → message_joining says s memory after ≡ refused_with s memory response p number status
unfolding refused_with
replying s memory response p number status says after r = rw (r.answer, r.response)

-- ---- rows 23 to 25, of a segment of several

module _ (s : State) (m : MessageSegment) (t : is_single m ≡ false) where
  found-is : message_found s m ≡ message_context s m.source m.letter m.mbox
  unfolding message_found
  found-is = rw t

  -- of an open message
  module _ (c : MessageContext) (o : message_context s m.source m.letter m.mbox < message_contexts) (same : c ≡ message_in s (message_context s m.source m.letter m.mbox)) where
    opened : message_open s m ≡ true
    opened = rw found-is (lt-ltb (message_context s m.source m.letter m.mbox) message_contexts o)

    context : message_in s (message_found s m) ≡ c
    context = rw found-is (sym same)

    other_is : other_message s m ≡ (not (eqb c.msglen m.msglen) || not (eqb c.ssize m.ssize))
    unfolding other_message
    other_is = rw (opened, context)

    marked_is : already_marked s m ≡ marked c.marks m.msgseg
    unfolding already_marked
    marked_is = rw (opened, context)

    free_is : needed_none_free s m ≡ false
    unfolding needed_none_free
    free_is = rw opened

    pub open_msglen : (c.msglen ≡ m.msglen → ⊥) → refusal_by_state s m ≡ 23
    unfolding refusal_by_state
    open_msglen d = rw (other_is, ne_eqb c.msglen m.msglen d)

    pub open_ssize : (c.ssize ≡ m.ssize → ⊥) → refusal_by_state s m ≡ 23
    unfolding refusal_by_state
    open_ssize d = rw (other_is, ne_eqb c.ssize m.ssize d, or-true (not (eqb c.msglen m.msglen)))

    module _ (l : c.msglen ≡ m.msglen) (z : c.ssize ≡ m.ssize) where
      not_other : other_message s m ≡ false
      not_other = other_is ∙ rw (eq-eqb c.msglen m.msglen l, eq-eqb c.ssize m.ssize z)

      pub open_marked : marked c.marks m.msgseg ≡ true → refusal_by_state s m ≡ 24
      unfolding refusal_by_state
      open_marked d = rw (not_other, marked_is, d)

      pub open_passes : marked c.marks m.msgseg ≡ false → refusal_by_state s m ≡ 0
      unfolding refusal_by_state
      open_passes d = rw (not_other, marked_is, d, free_is)

    pub open_accepted : (memory response p : List ℕ)
        → message_placed s memory response p m (message_context s m.source m.letter m.mbox) c.marks c.last ≡ message_accepted s memory response p m
    unfolding message_accepted
    open_accepted memory response p = rw (t, opened, context, found-is)

  -- of a new message
  module _ (o : message_contexts ≤ message_context s m.source m.letter m.mbox) where
    shut : message_open s m ≡ false
    shut = rw found-is (le-ltb (message_context s m.source m.letter m.mbox) message_contexts o)

    new : (other_message s m ≡ false) × (already_marked s m ≡ false)
    unfolding other_message already_marked
    new = (rw shut, rw shut)

    pub new_none : message_contexts ≤ free_message s → refusal_by_state s m ≡ 25
    unfolding refusal_by_state needed_none_free
    new_none h = rw (new.0, new.1, shut, le-ltb (free_message s) message_contexts h)

    pub new_passes : free_message s < message_contexts → refusal_by_state s m ≡ 0
    unfolding refusal_by_state needed_none_free
    new_passes h = rw (new.0, new.1, shut, lt-ltb (free_message s) message_contexts h)

    pub new_accepted : (memory response p : List ℕ) → message_placed s memory response p m (free_message s) 0 0 ≡ message_accepted s memory response p m
    unfolding message_accepted
    new_accepted memory response p = rw (t, shut)

-- ---- the status of a refusal

-- every status is one
pub status_small : (number : ℕ) → refusal_status number < 16
unfolding refusal_status
status_small number = go (eqb number 25)
  where
    go : (b : Bool) → cond b RETRY ERROR < 16
    go true = omega arith
    go false = omega arith

-- ---- the step

module _ (s : State) (memory response p : List ℕ) (m : MessageSegment) where
  abbrev by : Verdict → MessageJoined
  by = by_verdict (message_refusing s memory response p) (message_accepted s memory response p m)

  -- what holds of every refusal with its response, and of what is accepted once every row has failed, holds of the step
  pub step_cases : (P : MessageJoined → Type 0) → ((number status : ℕ) → P (refused_with s memory response p number status))
      → (m.raw ≤ bytes_of m.ssize → needed_none_free s m ≡ false → P (message_accepted s memory response p m)) → P (message_stepped s memory response p m)
  unfolding message_stepped message_rows form_rows none
  step_cases P refuses accepts =
      let error : (number : ℕ) → P (refused_with s memory response p number ERROR) = λ n. refuses n ERROR in
      let retry : (number : ℕ) → P (refused_with s memory response p number RETRY) = λ n. refuses n RETRY in
      whichever (message_refusing s memory response p) _ P (message_rows s m) (error and error and error and error and error and retry and tt)
      (λ passed. accepts (raw_le m passed.1.0) passed.1.1.1.1.1.0)

  -- rows 20 to 22
  pub step_refused : {says : Said} {after : List ℕ} (number : ℕ) → number ≡ judged m → (number ≡ 0 → ⊥) → Replied s response p number ERROR says after
      → message_joining says s memory after ≡ message_stepped s memory response p m
  unfolding message_stepped message_rows judged
  step_refused number j n r =
      replying s memory response p number ERROR _ _ r
      ∙ sym (ap by (joined-refuses (form_rows m) _ number all_error (number_refused all_error (form_rows m) number (writes_error m) j n)))

  -- rows 23 to 25, once these have passed
  module _ (fine : judged m ≡ 0) where
    pub matched : message_stepped s memory response p m
        ≡ cond (other_message s m) (refused_with s memory response p 23 ERROR)
        (cond (already_marked s m) (refused_with s memory response p 24 ERROR)
        (cond (needed_none_free s m) (refused_with s memory response p 25 RETRY)
        (message_accepted s memory response p m)))
    unfolding message_stepped message_rows
    matched = ap by (joined_passes (form_rows m) _ (form_passes m fine)) ∙ simp (by_row, by_end)

    -- a single-segment message
    module _ (t : is_single m ≡ true) where
      none_open : message_found s m ≡ message_contexts
      unfolding message_found
      none_open = rw t

      never : (other_message s m ≡ false) × (already_marked s m ≡ false)
      unfolding other_message already_marked
      never = (rw none_open, rw none_open)

      pub alone-none : {says : Said} {after : List ℕ} → message_contexts ≤ free_message s → Replied s response p 25 RETRY says after
          → message_joining says s memory after ≡ message_stepped s memory response p m
      unfolding needed_none_free
      alone-none h r = replying s memory response p 25 RETRY _ _ r ∙ sym (matched ∙ rw (never.0, never.1, none_open, le-ltb (free_message s) message_contexts h))

      pub alone_taken : free_message s < message_contexts → delivered_at_once s memory response p m (free_message s) ≡ message_stepped s memory response p m
      unfolding needed_none_free message_accepted
      alone_taken h = sym (matched ∙ rw (never.0, never.1, none_open, lt-ltb (free_message s) message_contexts h, t))

    -- by their number
    by_number : message_stepped s memory response p m
        ≡ cond (eqb (refusal_by_state s m) 0) (message_accepted s memory response p m) (refused_with s memory response p (refusal_by_state s m) (refusal_status (refusal_by_state s m)))
    unfolding refusal_by_state refusal_status
    by_number = matched ∙ go (other_message s m) (already_marked s m) (needed_none_free s m) (message_accepted s memory response p m) (refused_with s memory response p)
      where
        go : (other already needed : Bool) (accepted : MessageJoined) (refusal : ℕ → ℕ → MessageJoined)
            → cond other (refusal 23 ERROR) (cond already (refusal 24 ERROR) (cond needed (refusal 25 RETRY) accepted))
            ≡ (let number = cond other 23 (cond already 24 (cond needed 25 0)) in cond (eqb number 0) accepted (refusal number (cond (eqb number 25) RETRY ERROR)))
        go true already needed accepted refusal = refl
        go false true needed accepted refusal = refl
        go false false true accepted refusal = refl
        go false false false accepted refusal = refl

    passed : refusal_by_state s m ≡ 0 → message_accepted s memory response p m ≡ message_stepped s memory response p m
    passed n = sym (by_number ∙ rw n)

    -- what is chosen
    pub chosen_refused : {says : Said} {after : List ℕ} (refusal : Refusal) (status : ℕ) → Chooses s m (Err refusal) → status ≡ refusal_status (row_number refusal)
        → Replied s response p (row_number refusal) status says after → message_joining says s memory after ≡ message_stepped s memory response p m
    chosen_refused refusal status chosen e r =
        replying s memory response p (row_number refusal) status _ _ r
        ∙ sym (by_number ∙ rw (← chosen.row, ne_eqb (row_number refusal) 0 (never_0 refusal), e))

    pub chosen-placed : {j : MessageJoined} (c : Chosen) → Chooses s m (Ok c) → j ≡ message_placed s memory response p m c.n c.marks c.last
        → j ≡ message_stepped s memory response p m
    chosen-placed c chosen e = e ∙ (chosen.goes.accepts memory response p ∙ passed (sym chosen.row))

    -- a segment of several that is placed
    module _ (t : is_single m ≡ false) where
      pub join_placed : (c : MessageContext) → message_context s m.source m.letter m.mbox < message_contexts
          → c ≡ message_in s (message_context s m.source m.letter m.mbox) → c.msglen ≡ m.msglen → c.ssize ≡ m.ssize → marked c.marks m.msgseg ≡ false
          → message_placed s memory response p m (message_context s m.source m.letter m.mbox) c.marks c.last ≡ message_stepped s memory response p m
      join_placed c o same l z d = open_accepted s m t c o same memory response p ∙ passed (open_passes s m t c o same l z d)

      pub begin_placed : message_contexts ≤ message_context s m.source m.letter m.mbox → free_message s < message_contexts
          → message_placed s memory response p m (free_message s) 0 0 ≡ message_stepped s memory response p m
      begin_placed o h = new_accepted s m t o memory response p ∙ passed (new_passes s m t o h)

-- ---- what the stores and the context make
pub taking : (s : State) (memory response p : List ℕ) (m : MessageSegment) (n box : ℕ) (state : State) (memory' response' : List ℕ)
    → box ≡ mailbox m
    → state ≡ with_message s n closed_message
    → message_data_from (ids_in s) + m.raw ≡ length p
    → memory' ≡ written memory (n * message_room_bytes) (take (length p - (length p - m.raw)) (drop (length p - m.raw) p))
    → response' ≡ answered (ids_in s) response p DONE
    → message_joining (message n m.source m.letter box m.raw) state memory' response' ≡ delivered_at_once s memory response p m n
unfolding delivered_at_once
taking s memory response p m n box state memory' response' b a i e r = rw (b, a, e, r, data_whole (ids_in s) p m.raw i)

-- what 19 leaves of the message found
pub found_message : (s : State) (m : MessageSegment) (w : List ℕ) (c : MessageContext) → s ≡ state_of w → named_by_19 s ≡ false
    → message_context s m.source m.letter m.mbox < message_contexts
    → c ≡ message_in s (message_context s m.source m.letter m.mbox) → Message c
found_message s m w c e g o same =
    let eight_of : length s.messages ≡ message_contexts = rw e (eight w) in
    rw same (message_found_lem s m.source m.letter m.mbox (good s g) (omega arith))

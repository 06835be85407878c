-- Rows 20 to 25 of the refusal table, for a type 11 packet and a state: the tests of 23 to 25, and the rows. 20 to 22 need no state
-- (rules/specs/Messages.antt). Document 01, 'Refusal numbers'.
use Rattle.std.specs.Prelude.{ℕ, List, [], ◌∷◌, ◌++◌, Bool, cond, not, ◌||◌, ◌&&◌, eqb, ltb}
use Rattle.tables.specs.Refusals.{Row, row, all_error, all_retry}
use Rattle.wire.specs.declared.MessageSegment.{MessageSegment}
use Rattle.wire.specs.Type11.{is_single}
use Rattle.rules.specs.Messages.{form_rows}
use Rattle.contexts.specs.State.{State, message_in, message_context, free_message, message_contexts}
use Rattle.marks.specs.Marks.{marked}

-- the open context of a multi-segment message, message_contexts where it has none; a single-segment message is never compared with open ones
unfoldable pub message_found : State → MessageSegment → ℕ
message_found s m = cond (is_single m) message_contexts (message_context s m.source m.letter m.mbox)

abbrev pub message_open : State → MessageSegment → Bool
message_open s m = ltb (message_found s m) message_contexts

-- 23: open message has another msglen or ssize
unfoldable pub other_message : State → MessageSegment → Bool
other_message s m = message_open s m && (not (eqb (message_in s (message_found s m)).msglen m.msglen) || not (eqb (message_in s (message_found s m)).ssize m.ssize))

-- 24: segment already marked
unfoldable pub already_marked : State → MessageSegment → Bool
already_marked s m = message_open s m && marked (message_in s (message_found s m)).marks m.msgseg

-- 25: context needed, none free
unfoldable pub needed_none_free : State → MessageSegment → Bool
needed_none_free s m = not (message_open s m) && not (ltb (free_message s) message_contexts)

-- in the paper's order and words
unfoldable pub message_rows : State → MessageSegment → List Row
message_rows s m =
    -- 20, 21, 22: the packet's form
    form_rows m
    -- open message has another msglen or ssize
    ++ (row 23 (other_message s m) all_error
    -- segment already marked
    ∷ row 24 (already_marked s m) all_error
    -- context needed, none free
    ∷ row 25 (needed_none_free s m) all_retry
    ∷ [])

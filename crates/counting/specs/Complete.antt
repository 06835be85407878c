-- 'The sixteen marks of a message are a u16; complete exactly when its count of ones is msglen+1' (document 01; document 02, M-102): of the answer
-- itself, for every msglen and ssize at once.
use Rattle.std.specs.Prelude.{ℕ, ◌<◌, ◌≡◌, Bool, true, false, cond, not}
use Rattle.tables.specs.Refusals.{none}
use Rattle.answers.specs.Answers.{Said, held, delivered, message, refused}
use Rattle.wire.specs.declared.MessageSegment.{MessageSegment}
use Rattle.wire.specs.Head.{is11, head_rows}
use Rattle.wire.specs.Type11.{is_single}
use Rattle.marks.specs.Marks.{marked, counted_complete}
use Rattle.contexts.specs.State.{State, ids_in, message_in, is_free_message}
use Rattle.refusal19.specs.Refusal19.{named_by_19}
use Rattle.rules.specs.Messages.{form_rows}
use Rattle.message_rooms.specs.Placing.{marks_with}
use Rattle.messages.specs.Rows.{message_found, message_open, other_message, already_marked, needed_none_free}
use Rattle.reading.specs.Table.{Lent, state_in, message_segment_in, lent_rows}
use Rattle.reading.specs.Read.{reading}

-- a message segment that every row but 25 passes, in a state that 19 does not name
pub record PassedAllBut25 (x : Lent) : Type 0 where
  -- 19 and 12
  pub lent_passes : none (lent_rows x.desk)
  -- 1 to 5
  pub head_passes : none (head_rows (state_in x).setup.device (ids_in (state_in x)) x.packet)
  pub type_11 : is11 x.packet ≡ true
  -- 20, 21, 22
  pub form_passes : none (form_rows (message_segment_in x))
  pub passes_23 : other_message (state_in x) (message_segment_in x) ≡ false
  pub passes_24 : already_marked (state_in x) (message_segment_in x) ≡ false

-- the answer is a delivered message
abbrev pub is_message : Said → Bool
is_message held = false
is_message (delivered context flow stream_id size) = false
is_message (message context source letter mailbox size) = true
is_message (refused number) = false

-- the marks of its message so far: those of its open context, none where it has none
abbrev pub marks_so_far : State → MessageSegment → ℕ
marks_so_far s m = cond (message_open s m) (message_in s (message_found s m)).marks 0

-- this segment's with them
abbrev pub marks_in : Lent → ℕ
marks_in x = marks_with (message_segment_in x) (marks_so_far (state_in x) (message_segment_in x))

pub record CompleteByCount : Type 0 where
  -- a message of several segments is delivered exactly if the count of ones is msglen+1. Where 25 refuses its first segment, the count is 1, and
  -- msglen+1 is more
  pub several : (x : Lent) → PassedAllBut25 x → is_single (message_segment_in x) ≡ false
      → is_message (reading x).says ≡ counted_complete (marks_in x) (message_segment_in x).msglen
  -- a message of one segment has no marks: it is delivered exactly if 25 passes it too
  pub alone : (x : Lent) → PassedAllBut25 x → is_single (message_segment_in x) ≡ true
      → is_message (reading x).says ≡ not (needed_none_free (state_in x) (message_segment_in x))

-- in a state that 19 does not name an open message has no mark past msglen, so no stranger is counted
abbrev pub MarksWithin : Type 0
MarksWithin =
    (s : State) → named_by_19 s ≡ false → (n : ℕ) → is_free_message (message_in s n) ≡ false
    → (k : ℕ) → (message_in s n).msglen < k → marked (message_in s n).marks k ≡ false

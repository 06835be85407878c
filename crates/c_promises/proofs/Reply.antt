-- A report says of the response what reading wrote: by the row that decides, and of an accepted packet by its type.
use Prim.Native.Nat.{ℕ}
use mathlib.Core.Path.{◌≡◌, refl, sym, subst}
use mathlib.Core.Bool.{Bool}
use Rattle.lists.proofs.Tests.{by_test}
use Rattle.answers.specs.Answers.{Said, held, delivered, message, refused}
use Rattle.tables.specs.Refusals.{all, flow_closed, all_error, all_retry, Verdict, refuse, accept, verdict}
use Rattle.wire.specs.Type11.{is_single}
use Rattle.wire.specs.Head.{is9}
use Rattle.responses.specs.Type13.{response_size, DONE, ERROR, RETRY}
use Rattle.contexts.specs.State.{ids_in, free_message}
use Rattle.message_rooms.specs.Placing as message_room
use Rattle.messages.specs.Joining as joined
use Rattle.messages.specs.Rows.{message_open, message_found}
use Rattle.reading.specs.Table.{Lent, state_in, message_segment_in, table}
use Rattle.reading.specs.Read.{reading, outcome}
use Rattle.c_reports.specs.Reports.{report_of}
use Rattle.c_promises.specs.OfCalls.{Reply, silent, answers, ReportsReply}

-- a report names the bytes that it is given
names_them : (says : Said) (dropped : Bool) (replied : ℕ) → (report_of says dropped replied).response ≡ replied
unfolding report_of
names_them held dropped replied = refl
names_them (delivered context flow stream size) dropped replied = refl
names_them (message context source letter mailbox size) dropped replied = refl
names_them (refused number) dropped replied = refl

module _ (x : Lent) where
  -- every accepted message segment is answered DONE
  placed_answers : (n marks last : ℕ)
      → Reply x (response_size (ids_in (state_in x))) (message_room.message_placed (state_in x) x.desk.message_memory x.desk.response x.packet (message_segment_in x) n marks last).response
  unfolding message_room.message_placed
  placed_answers n marks last = answers DONE

  message_answers : Reply x (response_size (ids_in (state_in x))) (joined.message_accepted (state_in x) x.desk.message_memory x.desk.response x.packet (message_segment_in x)).response
  unfolding joined.message_accepted joined.delivered_at_once
  message_answers =
      by_test (is_single (message_segment_in x)) (λ t. rw t (answers DONE))
      (λ t. by_test (message_open (state_in x) (message_segment_in x))
      (λ o. rw (t, o) (placed_answers (message_found (state_in x) (message_segment_in x)) _ _))
      (λ o. rw (t, o) (placed_answers (free_message (state_in x)) 0 0)))

  by_verdict_lem : (v : Verdict) → Reply x (outcome x v).replied (outcome x v).desk.response
  by_verdict_lem (refuse number all) = silent
  by_verdict_lem (refuse number flow_closed) = silent
  by_verdict_lem (refuse number all_error) = answers ERROR
  by_verdict_lem (refuse number all_retry) = answers RETRY
  by_verdict_lem accept = by_test (is9 x.packet) (λ t. rw t silent) (λ t. rw t message_answers)

  replies : Reply x (reading x).replied (reading x).desk.response
  unfolding reading
  replies = by_verdict_lem (verdict (table x))

pub reports_reply : ReportsReply
reports_reply x = subst (λ (n : ℕ). Reply x n (reading x).desk.response) (sym (names_them (reading x).says (reading x).dropped (reading x).replied)) (replies x)

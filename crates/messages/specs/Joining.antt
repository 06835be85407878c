-- What a type 11 packet leaves, accepted or refused (document 01, 'Cutting and joining PDUs', messages).
use Rattle.std.specs.Prelude.{ℕ, ◌*◌, List, cond}
use Rattle.lists.specs.Bytes.{written}
use Rattle.tables.specs.Refusals.{Leaves, all, flow_closed, all_error, all_retry, verdict, by_verdict}
use Rattle.answers.specs.Answers.{message, refused}
use Rattle.wire.specs.declared.MessageSegment.{MessageSegment}
use Rattle.wire.specs.Type11.{is_single, mailbox}
use Rattle.responses.specs.Type13.{DONE, ERROR, RETRY, answered}
use Rattle.contexts.specs.State.{State, ids_in, message_in, with_message, closed_message, free_message}
use Rattle.message_rooms.specs.Placing.{MessageJoined, message_joining, message_data, message_placed, message_room_bytes}
use Rattle.messages.specs.Rows.{message_found, message_open, message_rows}

-- a single-segment message is delivered at once from context n, which it leaves closed
unfoldable pub delivered_at_once : State → List ℕ → List ℕ → List ℕ → MessageSegment → ℕ → MessageJoined
delivered_at_once s memory response p m n =
    message_joining (message n m.source m.letter (mailbox m) m.raw)
    (with_message s n closed_message)
    (written memory (n * message_room_bytes) (message_data (ids_in s) p))
    (answered (ids_in s) response p DONE)

-- accepted: a single-segment message takes the lowest free context, and so does the first-come segment of a new message
unfoldable pub message_accepted : State → List ℕ → List ℕ → List ℕ → MessageSegment → MessageJoined
message_accepted s memory response p m =
    cond (is_single m) (delivered_at_once s memory response p m (free_message s))
    (cond (message_open s m)
    (message_placed s memory response p m (message_found s m) (message_in s (message_found s m)).marks (message_in s (message_found s m)).last)
    (message_placed s memory response p m (free_message s) 0 0))

-- refused: all stays but the response
unfoldable pub refused_with : State → List ℕ → List ℕ → List ℕ → ℕ → ℕ → MessageJoined
refused_with s memory response p number status = message_joining (refused number) s memory (answered (ids_in s) response p status)

-- the table's last column; every row of type 11 has a response
abbrev pub message_refusing : State → List ℕ → List ℕ → List ℕ → ℕ → Leaves → MessageJoined
message_refusing s memory response p number all = message_joining (refused number) s memory response
message_refusing s memory response p number flow_closed = message_joining (refused number) s memory response
message_refusing s memory response p number all_error = refused_with s memory response p number ERROR
message_refusing s memory response p number all_retry = refused_with s memory response p number RETRY

-- a type 11 packet from row 20 on: the first row that holds decides
unfoldable pub message_stepped : State → List ℕ → List ℕ → List ℕ → MessageSegment → MessageJoined
message_stepped s memory response p m = by_verdict (message_refusing s memory response p) (message_accepted s memory response p m) (verdict (message_rows s m))

-- What a type 11 segment leaves in one context and its room (document 01, 'Cutting and joining PDUs', messages).
use Rattle.std.specs.Prelude.{ℕ, ◌+◌, ◌*◌, List, Bool, cond, drop}
use Rattle.lists.specs.Bytes.{written}
use Rattle.answers.specs.Answers.{Said, held, message}
use Rattle.wire.specs.declared.MessageSegment.{MessageSegment}
use Rattle.wire.specs.Type11.{mailbox, message_data_from}
use Rattle.sizes.specs.Sizes.{bytes_of}
use Rattle.responses.specs.Type13.{DONE, answered}
use Rattle.contexts.specs.declared.MessageContext.{MessageContext}
use Rattle.contexts.specs.State.{State, ids_in, with_message, closed_message, open_message, message_contexts}
use Rattle.marks.specs.Marks.{with_mark, all_marked}
use Rattle.rules.specs.Messages.{last_with}

-- the bytes of a message context's room, and of the memory that has one for each
abbrev pub message_room_bytes : ℕ
message_room_bytes = 4096

abbrev pub message_memory_bytes : ℕ
message_memory_bytes = message_contexts * message_room_bytes

-- the answer, the state, the message memory and the response buffer
pub record MessageJoined : Type 0 where
  pub says : Said
  pub state : State
  pub memory : List ℕ
  pub response : List ℕ

abbrev pub message_joining : Said → State → List ℕ → List ℕ → MessageJoined
message_joining says state memory response = record { says = says; state = state; memory = memory; response = response }

-- the segment's data: all behind its head
abbrev pub message_data : (ids : ℕ) → List ℕ → List ℕ
message_data ids p = drop (message_data_from ids) p

-- the marks with this segment
abbrev pub marks_with : MessageSegment → ℕ → ℕ
marks_with m marks = with_mark marks m.msgseg

-- the context as it is kept with `marks` and `last`
abbrev pub kept : MessageSegment → ℕ → ℕ → MessageContext
kept m marks last = open_message m.source m.letter m.mbox m.msglen m.ssize marks last

-- all segments of the message are in
abbrev pub complete : MessageSegment → ℕ → Bool
complete m marks = all_marked marks (m.msglen + 1)

-- the answer and the context once the marks are `marks` and the last segment's length is `last`: with all present the message is delivered and its context freed
abbrev pub answer_with : MessageSegment → ℕ → ℕ → ℕ → Said
answer_with m n marks last = cond (complete m marks) (message n m.source m.letter (mailbox m) (m.msglen * bytes_of m.ssize + last)) held

abbrev pub context_with : MessageSegment → ℕ → ℕ → MessageContext
context_with m marks last = cond (complete m marks) closed_message (kept m marks last)

-- segment k is stored at k ssize of room n, and marked
unfoldable pub message_placed : State → List ℕ → List ℕ → List ℕ → MessageSegment → ℕ → ℕ → ℕ → MessageJoined
message_placed s memory response p m n marks last =
    message_joining (answer_with m n (marks_with m marks) (last_with m last))
    (with_message s n (context_with m (marks_with m marks) (last_with m last)))
    (written memory (n * message_room_bytes + m.msgseg * bytes_of m.ssize) (message_data (ids_in s) p))
    (answered (ids_in s) response p DONE)

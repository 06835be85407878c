-- What the functions rely on and promise those above. No promise of a public call speaks of it.
use Rattle.std.specs.Prelude.{ℕ, ◌≤◌, ◌<◌, ◌+◌, ◌^◌, ◌≡◌, List, false, length}
use Rattle.answers.specs.Answers.{Said, refused}
use Rattle.wire.specs.declared.MessageSegment.{MessageSegment}
use Rattle.wire.specs.Type11.{message_data_from, message_of, is_single}
use Rattle.responses.specs.Type13.{response_size, answered}
use Rattle.contexts.specs.State.{State, ids_in, with_message, message_contexts}
use Rattle.contexts.specs.Words.{state_of, state_words}
use Rattle.marks.specs.Marks.{marked}
use Rattle.refusal19.specs.Refusal19.{named_by_19}
use Rattle.message_rooms.specs.Placing.{answer_with, context_with, message_memory_bytes}

-- the segment that a packet is, at the width of the endpoint
abbrev pub message_for : (words packet : List ℕ) → MessageSegment
message_for words packet = message_of (ids_in (state_of words)) packet

-- the bytes of a response, at the width of the endpoint
abbrev pub reply_size : State → ℕ
reply_size s = response_size (ids_in s)

-- what a response relies on: words of a state, a buffer for it, a packet with its head
pub record CanReply (words response packet : List ℕ) : Type 0 where
  pub words_whole : length words ≡ state_words
  pub room : reply_size (state_of words) ≤ length response
  pub head : message_data_from (ids_in (state_of words)) ≤ length packet

-- words of a state that 19 does not name, buffers that 12 allows, a packet with its head
pub record MessageReady (words memory response packet : List ℕ) (m : MessageSegment) : Type 0 where
  pub whole : length words ≡ state_words
  pub good : named_by_19 (state_of words) ≡ false
  pub size : length memory ≡ message_memory_bytes
  pub reply : reply_size (state_of words) ≤ length response
  pub inside : message_data_from (ids_in (state_of words)) + m.raw ≡ length packet
  pub segments : m.msglen < 16
  pub number : m.msgseg < 16
  pub boxes : m.mbox < 4

-- the segment is one more of its message: context n, and marks that leave it out
pub record MessageFits (m : MessageSegment) (n marks last : ℕ) : Type 0 where
  pub context : n < message_contexts
  pub several : is_single m ≡ false
  pub inside : marks < 2 ^ (m.msglen + 1)
  pub unmarked : marked marks m.msgseg ≡ false
  pub short : last ≤ 256

-- context n delivered or kept
pub record MessageKept (s : State) (m : MessageSegment) (n marks last : ℕ) (says : Said) (after : State) : Type 0 where
  pub answer : says ≡ answer_with m n marks last
  pub state : after ≡ with_message s n (context_with m marks last)

-- a refusal and its response
pub record Replied (s : State) (before packet : List ℕ) (number status : ℕ) (says : Said) (after : List ℕ) : Type 0 where
  pub answer : says ≡ refused number
  pub response : after ≡ answered (ids_in s) before packet status

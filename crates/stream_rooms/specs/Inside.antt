-- What the functions rely on and promise those above. No promise of a public call speaks of it.
use Rattle.std.specs.Prelude.{ℕ, ◌≤◌, ◌<◌, ◌+◌, ◌*◌, ◌≡◌, List, Bool, false, length, ltb}
use Rattle.answers.specs.Answers.{Said, delivered, refused}
use Rattle.wire.specs.declared.Flow.{Flow}
use Rattle.wire.specs.declared.StreamHead.{StreamHead}
use Rattle.wire.specs.Segment.{Segment}
use Rattle.wire.specs.Type9.{flags, segment_of}
use Rattle.sizes.specs.Sizes.{data_length}
use Rattle.contexts.specs.State.{State, ids_in, stream_in, with_stream, closed_stream, stream_contexts}
use Rattle.contexts.specs.Words.{state_of, state_words}
use Rattle.refusal19.specs.Refusal19.{named_by_19}

-- the segment that a packet is, at the width of the endpoint
abbrev pub stream_for : (words packet : List ℕ) → Segment
stream_for words packet = segment_of (ids_in (state_of words)) packet

-- what every step may rely on: words of a state that 19 does not name, the stream memory's size, data inside the packet
pub record Ready (words memory packet : List ℕ) (g : Segment) : Type 0 where
  pub whole : length words ≡ state_words
  pub good : named_by_19 (state_of words) ≡ false
  pub size : length memory ≡ stream_contexts * (state_of words).setup.room
  pub inside : g.from + g.raw ≡ length packet

-- a refusal that closed context `found`, where that is one
pub record Closing (s : State) (found number : ℕ) (says : Said) (dropped : Bool) (after : State) : Type 0 where
  pub answer : says ≡ refused number
  pub drop : dropped ≡ ltb found stream_contexts
  pub state : after ≡ with_stream s found closed_stream

-- what the code has read of a type 9 packet: its flags, where the data begin, and the flow
pub record Fields (words packet : List ℕ) (head : StreamHead) : Type 0 where
  pub flag_bits : head.flags ≡ flags (ids_in (state_of words)) packet
  pub data_from_lem : head.from ≡ (stream_for words packet).from
  pub sender : head.flow ≡ (stream_for words packet).flow

-- the PDU of context n delivered, and the context freed
pub record Delivering (s : State) (n : ℕ) (flow : Flow) (stream total : ℕ) (gave : Bool) (says : Said) (dropped : Bool) (after : State) : Type 0 where
  pub answer : says ≡ delivered n flow stream total
  pub drop : dropped ≡ gave
  pub state : after ≡ with_stream s n closed_stream

-- the segment's data fit behind `base` bytes of room n
pub record Fits (s : State) (g : Segment) (n base count : ℕ) : Type 0 where
  pub context : n < stream_contexts
  pub size : count ≡ data_length g
  pub within : count ≤ g.raw
  pub behind : base + count ≤ s.setup.room

-- a segment that goes on: in context n, which is its flow's, and whether it ends the PDU
pub record GoesOn (s : State) (g : Segment) (n held count : ℕ) (is_end : Bool) : Type 0 where
  pub fits : Fits s g n held count
  pub own : (stream_in s n).flow ≡ g.flow
  pub kind : g.ends ≡ is_end

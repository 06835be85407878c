-- What packets, and a burst, rely on. No promise of a public call speaks of it.
use Rattle.std.specs.Prelude.{ℕ, ◌≤◌, ◌*◌, ◌≡◌, false, length}
use Rattle.responses.specs.Type13.{response_size}
use Rattle.contexts.specs.State.{ids_in, stream_contexts}
use Rattle.contexts.specs.Words.{state_words}
use Rattle.refusal19.specs.Refusal19.{named_by_19}
use Rattle.message_rooms.specs.Placing.{message_memory_bytes}
use Rattle.reading.specs.Desk.{Desk, state_on}

-- rows 19 and 12 passed, the response buffer aside: what a run over many packets keeps
pub record Fit (d : Desk) : Type 0 where
  pub whole : length d.words ≡ state_words
  pub good : named_by_19 (state_on d) ≡ false
  pub rooms : length d.stream_memory ≡ stream_contexts * (state_on d).setup.room
  pub boxes : length d.message_memory ≡ message_memory_bytes

-- and a response buffer that 12 allows: what reading one packet may rely on
pub record ReadyToRead (d : Desk) : Type 0 where
  pub fit : Fit d
  pub reply : response_size (ids_in (state_on d)) ≤ length d.response

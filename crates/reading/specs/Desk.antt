-- The desk: what a caller lends to be read by and written, the packet aside. Every call for a packet, every run over many, and every
-- statement about them speaks of this one record, so that one more memory is one more field.
use Rattle.std.specs.Prelude.{ℕ, List}
use Rattle.contexts.specs.State.{State}
use Rattle.contexts.specs.Words.{state_of}

pub record Desk : Type 0 where
  -- the words of the state
  pub words : List ℕ
  pub stream_memory : List ℕ
  pub message_memory : List ℕ
  -- the response buffer
  pub response : List ℕ

abbrev pub desk : (words stream_memory message_memory response : List ℕ) → Desk
desk words stream_memory message_memory response = record { words = words; stream_memory = stream_memory; message_memory = message_memory; response = response }

-- the state that the words are
abbrev pub state_on : Desk → State
state_on d = state_of d.words

-- the same desk with other words and another stream memory
abbrev pub with_streams : Desk → (words stream_memory : List ℕ) → Desk
with_streams d words stream_memory = desk words stream_memory d.message_memory d.response

-- with other words, another message memory and another response buffer
abbrev pub with_messages : Desk → (words message_memory response : List ℕ) → Desk
with_messages d words message_memory response = desk words d.stream_memory message_memory response

-- with another response buffer
abbrev pub with_response : Desk → (response : List ℕ) → Desk
with_response d response = desk d.words d.stream_memory d.message_memory response

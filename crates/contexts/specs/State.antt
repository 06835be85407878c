-- The endpoint's state: what setup fixed, 16 stream contexts and 8 message contexts (document 01, 'Cutting and joining PDUs').
use Rattle.std.specs.Prelude.{ℕ, List, Bool, not, ◌&&◌, get_or, set, replicate, eqb}
use Rattle.lists.specs.First.{first_of}
use Rattle.wire.specs.declared.Flow.{Flow}
use Rattle.wire.specs.declared.Setup.{Setup}
use Rattle.wire.specs.Packet.{ids_of}
use Rattle.wire.specs.Type9.{same_flow}
use Rattle.contexts.specs.declared.StreamContext.{StreamContext}
use Rattle.contexts.specs.declared.MessageContext.{MessageContext}

-- how many contexts of each kind there are
abbrev pub stream_contexts : ℕ
stream_contexts = 16

abbrev pub message_contexts : ℕ
message_contexts = 8

-- what setup fixed: our device ID, the MTU, R (the bytes of a stream context's room), and the width of an ID (0 is 16 bits, any other is 8 bits)
abbrev pub fixed : (device mtu room narrow : ℕ) → Setup
fixed device mtu room narrow = record { device = device; mtu = mtu; room = room; narrow = narrow }

pub record State : Type 0 where
  pub setup : Setup
  -- stream_contexts of them
  pub streams : List StreamContext
  -- message_contexts of them
  pub messages : List MessageContext

-- the bytes of an ID
abbrev pub ids_in : State → ℕ
ids_in s = ids_of s.setup

-- a context with all its fields 0
abbrev pub closed_stream : StreamContext
closed_stream = record { live = 0; flow = record { source = 0; priority = 0; cos = 0 }; stream = 0; held = 0 }

abbrev pub closed_message : MessageContext
closed_message = record { live = 0; source = 0; letter = 0; mbox = 0; msglen = 0; ssize = 0; marks = 0; last = 0 }

-- an open context: of a PDU of that flow and streamID with so many bytes held
abbrev pub open_stream : Flow → (stream held : ℕ) → StreamContext
open_stream flow stream held = record { live = 1; flow = flow; stream = stream; held = held }

-- of a message with these marks, and the length of its last segment once that has come
abbrev pub open_message : (source letter mbox msglen ssize marks last : ℕ) → MessageContext
open_message source letter mbox msglen ssize marks last = record {
  live = 1;
  source = source;
  letter = letter;
  mbox = mbox;
  msglen = msglen;
  ssize = ssize;
  marks = marks;
  last = last;
}

-- an open context goes on: of the same flow and streamID, with so many bytes held
abbrev pub holding : StreamContext → (held : ℕ) → StreamContext
holding c held = open_stream c.flow c.stream held

-- as setup makes it
abbrev pub fresh : Setup → State
fresh setup = record {
  setup = setup;
  streams = replicate stream_contexts closed_stream;
  messages = replicate message_contexts closed_message;
}

-- context n; a closed one past the last
abbrev pub stream_in : State → ℕ → StreamContext
stream_in s n = get_or s.streams n closed_stream

abbrev pub message_in : State → ℕ → MessageContext
message_in s n = get_or s.messages n closed_message

-- the state with c as context n; as it was where n is past the last
abbrev pub with_stream : State → ℕ → StreamContext → State
with_stream s n c = record { setup = s.setup; streams = set s.streams n c; messages = s.messages }

abbrev pub with_message : State → ℕ → MessageContext → State
with_message s n c = record { setup = s.setup; streams = s.streams; messages = set s.messages n c }

-- free and open contexts: a live word other than 0 counts as open
unfoldable pub is_free_stream : StreamContext → Bool
is_free_stream c = eqb c.live 0

unfoldable pub is_free_message : MessageContext → Bool
is_free_message c = eqb c.live 0

-- an open context of that flow
unfoldable pub is_of_flow : Flow → StreamContext → Bool
is_of_flow flow c = not (is_free_stream c) && same_flow c.flow flow

-- an open context of that message: known by source, letter and mbox
unfoldable pub is_of_message : ℕ → ℕ → ℕ → MessageContext → Bool
is_of_message source letter mbox c = not (is_free_message c) && (eqb c.source source && (eqb c.letter letter && eqb c.mbox mbox))

-- the flow's open context: of two, the lower number; stream_contexts: none
unfoldable pub flow_context : State → Flow → ℕ
flow_context s flow = first_of (is_of_flow flow) s.streams

-- the lowest free stream context; stream_contexts: none
unfoldable pub free_stream : State → ℕ
free_stream s = first_of is_free_stream s.streams

-- the message's open context: of two, the lower number; message_contexts: none
unfoldable pub message_context : State → ℕ → ℕ → ℕ → ℕ
message_context s source letter mbox = first_of (is_of_message source letter mbox) s.messages

-- the lowest free message context; message_contexts: none
unfoldable pub free_message : State → ℕ
free_message s = first_of is_free_message s.messages

-- The state in the words that the caller lends: the head, then the stream contexts, then the message contexts.
-- A new word is one line where a part's words are given and one where they are read. Every number follows.
use Rattle.std.specs.Prelude.{ℕ, ◌+◌, ◌*◌, List, [], ◌∷◌, ◌++◌, map, length, get_or, take}
use Rattle.lists.specs.Rows.{joined, records_at}
use Rattle.wire.specs.declared.Setup.{Setup}
use Rattle.contexts.specs.State.{State, fixed, closed_stream, closed_message, stream_contexts, message_contexts}
use Rattle.contexts.specs.declared.StreamContext.{StreamContext}
use Rattle.contexts.specs.declared.MessageContext.{MessageContext}

-- ---- the words of each part in their order, and back

-- the head: what setup fixed
abbrev pub words_of_setup : Setup → List ℕ
words_of_setup s = s.device ∷ s.mtu ∷ s.room ∷ s.narrow ∷ []

abbrev pub setup_from : List ℕ → Setup
setup_from w = fixed (get_or w 0 0) (get_or w 1 0) (get_or w 2 0) (get_or w 3 0)

-- a stream context
abbrev pub words_of_stream : StreamContext → List ℕ
words_of_stream c = c.live ∷ c.flow.source ∷ c.flow.priority ∷ c.flow.cos ∷ c.stream ∷ c.held ∷ []

abbrev pub stream_from : List ℕ → StreamContext
stream_from w = record {
  live = get_or w 0 0;
  flow = record { source = get_or w 1 0; priority = get_or w 2 0; cos = get_or w 3 0 };
  stream = get_or w 4 0;
  held = get_or w 5 0;
}

-- a message context
abbrev pub words_of_message : MessageContext → List ℕ
words_of_message c = c.live ∷ c.source ∷ c.letter ∷ c.mbox ∷ c.msglen ∷ c.ssize ∷ c.marks ∷ c.last ∷ []

abbrev pub message_from : List ℕ → MessageContext
message_from w = record {
  live = get_or w 0 0;
  source = get_or w 1 0;
  letter = get_or w 2 0;
  mbox = get_or w 3 0;
  msglen = get_or w 4 0;
  ssize = get_or w 5 0;
  marks = get_or w 6 0;
  last = get_or w 7 0;
}

-- ---- how many words each part has, and where it begins
abbrev pub head_words : ℕ
head_words = length (words_of_setup (fixed 0 0 0 0))

abbrev pub stream_words : ℕ
stream_words = length (words_of_stream closed_stream)

abbrev pub message_words : ℕ
message_words = length (words_of_message closed_message)

abbrev pub first_stream : ℕ
first_stream = head_words

abbrev pub first_message : ℕ
first_message = first_stream + stream_words * stream_contexts

abbrev pub state_words : ℕ
state_words = first_message + message_words * message_contexts

-- ---- the state that the words are: every list of state_words words is one
unfoldable pub state_of : List ℕ → State
state_of w = record {
  setup = setup_from (take head_words w);
  streams = records_at stream_from stream_words stream_contexts first_stream w;
  messages = records_at message_from message_words message_contexts first_message w;
}

-- and back
unfoldable pub words_of : State → List ℕ
words_of s = words_of_setup s.setup ++ (joined (map words_of_stream s.streams) ++ joined (map words_of_message s.messages))

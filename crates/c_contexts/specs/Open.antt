-- The numbers that stand for what is said of a context, for callers in C.
use Rattle.std.specs.Prelude.{ℕ}
use Rattle.answers.specs.Kinds.{refused_kind, free_kind, open_kind}
use Rattle.answers.specs.Answers.{StreamContextSaid, stream_is_open, stream_is_free, stream_ask_refused}
use Rattle.answers.specs.Answers.{MessageContextSaid, message_is_open, message_is_free, message_ask_refused}
use Rattle.c_contexts.specs.declared.OpenStream.{OpenStream}
use Rattle.c_contexts.specs.declared.OpenMessage.{OpenMessage}

-- of a context that is not open
abbrev pub no_stream : ℕ → ℕ → OpenStream
no_stream kind number = record { kind = kind; number = number; source = 0; cos = 0; stream = 0; held = 0; priority = 0 }

abbrev pub no_message : ℕ → ℕ → OpenMessage
no_message kind number = record {
  kind = kind;
  number = number;
  source = 0;
  letter = 0;
  mbox = 0;
  msglen = 0;
  size = 0;
  marks = 0;
  last = 0;
}

abbrev pub open_stream_of : StreamContextSaid → OpenStream
open_stream_of (stream_is_open flow stream_id held) = record {
  kind = open_kind;
  number = 0;
  source = flow.source;
  cos = flow.cos;
  stream = stream_id;
  held = held;
  priority = flow.priority;
}
open_stream_of stream_is_free = no_stream free_kind 0
open_stream_of (stream_ask_refused number) = no_stream refused_kind number

abbrev pub open_message_of : MessageContextSaid → OpenMessage
open_message_of (message_is_open source letter mbox msglen size marks last) = record {
  kind = open_kind;
  number = 0;
  source = source;
  letter = letter;
  mbox = mbox;
  msglen = msglen;
  size = size;
  marks = marks;
  last = last;
}
open_message_of message_is_free = no_message free_kind 0
open_message_of (message_ask_refused number) = no_message refused_kind number

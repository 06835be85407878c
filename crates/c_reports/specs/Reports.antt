-- The report of numbers that stands for an answer, for callers in C.
use Rattle.std.specs.Prelude.{ℕ, List, [], ◌∷◌, Bool, cond}
use Rattle.lists.specs.Bytes.{byte}
use Rattle.answers.specs.Answers.{Said, held, delivered, message, refused}
use Rattle.answers.specs.Kinds.{refused_kind, held_kind, delivered_kind, message_kind, ready_kind, closed_kind, free_kind, written_kind, open_kind}
use Rattle.c_reports.specs.declared.Kind.{Kind}
use Rattle.c_reports.specs.declared.Kind.TheVariants as kind
use Rattle.c_reports.specs.declared.Report.{Report}

-- the number of a kind
abbrev pub kind_number : Kind → ℕ
kind_number kind.Refused = refused_kind
kind_number kind.Held = held_kind
kind_number kind.Delivered = delivered_kind
kind_number kind.Message = message_kind
kind_number kind.Ready = ready_kind
kind_number kind.Closed = closed_kind
kind_number kind.Free = free_kind
kind_number kind.Written = written_kind
kind_number kind.Open = open_kind

-- ---- the report of a packet

-- a number for each thing that reading says
abbrev pub kind_of : Said → ℕ
kind_of (refused number) = refused_kind
kind_of held = held_kind
kind_of (delivered context flow stream size) = delivered_kind
kind_of (message context source letter mailbox size) = message_kind

abbrev pub flag_of : Bool → ℕ
flag_of b = cond b 1 0

-- a report that carries no PDU and no message
abbrev pub plain_of : ℕ → ℕ → ℕ → ℕ → Report
plain_of kind number dropped response = record {
  kind = kind;
  number = number;
  dropped = dropped;
  response = response;
  context = 0;
  source = 0;
  cos_or_letter = 0;
  stream_or_mailbox = 0;
  length = 0;
  priority = 0;
}

-- a report that carries one
abbrev pub carrying : ℕ → ℕ → ℕ → ℕ → ℕ → ℕ → ℕ → ℕ → ℕ → Report
carrying kind dropped response context source cos_or_letter stream_or_mailbox size priority = record {
  kind = kind;
  number = 0;
  dropped = dropped;
  response = response;
  context = context;
  source = source;
  cos_or_letter = cos_or_letter;
  stream_or_mailbox = stream_or_mailbox;
  length = size;
  priority = priority;
}

abbrev pub saying_of : Said → ℕ → ℕ → Report
saying_of (refused number) dropped response = plain_of (kind_of (refused number)) number dropped response
saying_of held dropped response = plain_of (kind_of held) 0 dropped response
saying_of (delivered context flow stream size) dropped response =
    carrying (kind_of (delivered context flow stream size)) dropped response context flow.source flow.cos stream size flow.priority
saying_of (message context source letter mailbox size) dropped response =
    carrying (kind_of (message context source letter mailbox size)) dropped response context source letter mailbox size 0

-- the report of what reading the packet said, whether it dropped an open PDU, and how many bytes of response it wrote
unfoldable pub report_of : Said → Bool → ℕ → Report
report_of says dropped replied = saying_of says (flag_of dropped) replied

-- how many words a report takes in a lent buffer
abbrev pub report_words : ℕ
report_words = 10

-- its words there, in the order of its fields
abbrev pub words_of_report : Report → List ℕ
words_of_report r =
    r.kind
    ∷ r.number
    ∷ r.dropped
    ∷ r.response
    ∷ r.context
    ∷ r.source
    ∷ r.cos_or_letter
    ∷ r.stream_or_mailbox
    ∷ r.length
    ∷ r.priority
    ∷ []

-- and back: the report that stands in such words
abbrev pub report_in : List ℕ → Report
report_in words = record {
  kind = byte words 0;
  number = byte words 1;
  dropped = byte words 2;
  response = byte words 3;
  context = byte words 4;
  source = byte words 5;
  cos_or_letter = byte words 6;
  stream_or_mailbox = byte words 7;
  length = byte words 8;
  priority = byte words 9;
}

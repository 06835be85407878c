-- A message is read back, whatever comes between its segments. The statements; each is proved in proofs/.
use Rattle.std.specs.Prelude.{ℕ, ◌<◌, ◌≡◌, List, [], ◌∷◌, ◌++◌, map, false, cond, replicate, leb}
use Rattle.lists.specs.Bytes.{AreBytes}
use Rattle.lists.specs.Each.{Each}
use Rattle.answers.specs.Answers.{held}
use Rattle.wire.specs.declared.Setup.{Setup}
use Rattle.wire.specs.Parsed.{parsed}
use Rattle.contexts.specs.State.{message_in, message_context, message_contexts}
use Rattle.message_rooms.specs.Placing.{message_room_bytes}
use Rattle.reading.specs.Good.{GoodWords}
use Rattle.reading.specs.Desk.{Desk, state_on}
use Rattle.flows.specs.Deliveries.{after, in_room}
use Rattle.flows.specs.Fresh.{Lends}
use Rattle.mailing.specs.Mail.{Posted, msglen_of, mbox_of, Postable, mail_answer}
use Rattle.mailing.specs.Run.{MailTurn, run_packets, arrivals, times, is_of_mail, FairMailTurn, MailCall, of_segments, context_at_first, said_at, DoneAt, mail_in, of_name, calls_of}

-- a good state, and memories that 12 allows, whatever is in them
pub record GoodDesk (d : Desk) : Type 0 where
  pub good : GoodWords d.words
  pub lends : Lends (state_on d).setup d

abbrev pub setup_of : Desk → Setup
setup_of d = (state_on d).setup

-- the open context of a message's source, letter and mbox; message_contexts: none
abbrev pub context_of : Posted → Desk → ℕ
context_of x d = message_context (state_on d) x.mail.source x.mail.letter (mbox_of x)

-- ---- The premises

-- Other packets may come before, between and behind the segments. They may take contexts too, so what is asked of the contexts is asked
-- at two moments: none is open for the message when the run begins, and one is free when its first segment comes.
pub record MailRun (d : Desk) (x : Posted) (turns : List MailTurn) (calls : List MailCall) : Type 0 where
  pub start : GoodDesk d
  -- a message that can be sent to this endpoint
  pub postable : Postable (setup_of d) x
  -- segments 0 to msglen come, each once, in any order
  pub each-once : (k : ℕ) → times k (arrivals turns) ≡ cond (leb k (msglen_of x)) 1 0
  -- and any other packets, but none of its source, letter and mbox
  pub others : Each (FairMailTurn (setup_of d) x) turns
  -- none is open for it. (A message of one segment is never compared with open ones.)
  pub none_open : 0 < msglen_of x → context_of x d ≡ message_contexts
  -- a context is left for it
  pub one_free : context_at_first (of_segments turns calls) < message_contexts

-- ---- What holds then

pub record MailReadsBack (x : Posted) (turns : List MailTurn) (calls : List MailCall) : Type 0 where
  -- its segments are held, but the last that comes is answered with the message
  pub answers : map said_at (of_segments turns calls) ≡ replicate (msglen_of x) held ++ (mail_answer x (context_at_first (of_segments turns calls)) ∷ [])
  -- each of them writes DONE
  pub responses : Each DoneAt (of_segments turns calls)
  -- of its source, letter and mbox the whole run delivers one message, once, and it is this, with exactly its bytes
  pub delivers : of_name x (mail_in calls) ≡ x.mail ∷ []

-- the calls of a run, as the definitions have them
abbrev pub defined_calls : Desk → Posted → List MailTurn → List MailCall
defined_calls d x turns = calls_of d (run_packets (setup_of d) x turns)

-- for every ssize and msglen at once. Of the calls that people make: OfCalls.antt
abbrev pub MessageReadBack : Type 0
MessageReadBack = (d : Desk) (x : Posted) (turns : List MailTurn) → MailRun d x turns (defined_calls d x turns) → MailReadsBack x turns (defined_calls d x turns)

-- ---- Why nothing between disturbs it

-- an open message stays in context n, with all fields of the context and all bytes of its room
pub record MailStays (x : Posted) (n : ℕ) (d d' : Desk) : Type 0 where
  pub found : context_of x d' ≡ n
  pub context : message_in (state_on d') n ≡ message_in (state_on d) n
  pub bytes : in_room message_room_bytes d'.message_memory n message_room_bytes ≡ in_room message_room_bytes d.message_memory n message_room_bytes

-- a packet that is not of its source, letter and mbox leaves it so
abbrev pub OthersLeaveMail : Type 0
OthersLeaveMail =
    (d : Desk) (x : Posted) (p : List ℕ) (n : ℕ) → GoodDesk d → context_of x d ≡ n → n < message_contexts → AreBytes p → is_of_mail x (parsed (setup_of d) p) ≡ false
    → MailStays x n d (after d p)

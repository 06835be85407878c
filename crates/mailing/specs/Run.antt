-- A run: a message's segments come among other packets, and the endpoint reads them all, a call for each packet.
use Rattle.std.specs.Prelude.{ℕ, ◌+◌, ◌%◌, ◌≡◌, List, [], ◌∷◌, ◌++◌, map, Bool, false, cond, ◌&&◌, eqb}
use Rattle.lists.specs.Bytes.{AreBytes}
use Rattle.answers.specs.Answers.{Said, held, delivered, message, refused}
use Rattle.wire.specs.declared.Setup.{Setup}
use Rattle.wire.specs.Parsed.{Parsed}
use Rattle.wire.specs.Parsed.{Refused, Stream, Message}
use Rattle.wire.specs.Parsed.{parsed}
use Rattle.responses.specs.Type13.{DONE, answered}
use Rattle.contexts.specs.State.{ids_in, free_message, message_contexts}
use Rattle.message_rooms.specs.Placing.{message_room_bytes}
use Rattle.reading.specs.Desk.{Desk, state_on}
use Rattle.flows.specs.Deliveries.{read, after, in_room}
use Rattle.mailing.specs.Mail.{Mail, Posted, mbox_of, mail_packet}

-- ---- What comes

-- a turn: segment k of the message comes, or any other packet
pub data MailTurn : Type 0 where
  segment : ℕ → MailTurn
  other : List ℕ → MailTurn

abbrev pub turn_packet : Setup → Posted → MailTurn → List ℕ
turn_packet setup x (segment k) = mail_packet setup x k
turn_packet setup x (other p) = p

abbrev pub run_packets : Setup → Posted → List MailTurn → List (List ℕ)
run_packets setup x = map (turn_packet setup x)

-- the segments' numbers, in the order in which they come
abbrev pub arrivals : List MailTurn → List ℕ
arrivals [] = []
arrivals (segment k ∷ ts) = k ∷ arrivals ts
arrivals (other p ∷ ts) = arrivals ts

-- how often a number stands in a list
abbrev pub times : ℕ → List ℕ → ℕ
times k [] = 0
times k (j ∷ js) = cond (eqb k j) 1 0 + times k js

-- a message is known by source, letter and mbox
abbrev pub is_name : Posted → (source letter mbox : ℕ) → Bool
is_name x source letter mbox = eqb source x.mail.source && (eqb letter x.mail.letter && eqb mbox (mbox_of x))

-- a type 11 packet for us of that source, letter and mbox
abbrev pub is_of_mail : Posted → Parsed → Bool
is_of_mail x (Refused number) = false
is_of_mail x (Stream g) = false
is_of_mail x (Message m) = is_name x m.source m.letter m.mbox

-- any other packet: made of bytes, and none of these
abbrev pub FairMailTurn : Setup → Posted → MailTurn → Type 0
FairMailTurn setup x (segment k) = Unit {0}
FairMailTurn setup x (other p) = AreBytes p × (is_of_mail x (parsed setup p) ≡ false)

-- ---- The calls

-- a call of `read`: the desk that is lent, the packet, what is said, and the desk as it is left; and the messages that the caller then has,
-- one where it delivers one, else none
pub record MailCall : Type 0 where
  pub lent : Desk
  pub packet : List ℕ
  pub says : Said
  pub left : Desk
  pub mail : List Mail

-- those that read the segments
abbrev pub of_segments : List MailTurn → List MailCall → List MailCall
of_segments [] cs = []
of_segments (t ∷ ts) [] = []
of_segments (segment k ∷ ts) (c ∷ cs) = c ∷ of_segments ts cs
of_segments (other p ∷ ts) (c ∷ cs) = of_segments ts cs

-- the lowest context that is free when the first of them is made; message_contexts: none
abbrev pub context_at_first : List MailCall → ℕ
context_at_first [] = message_contexts
context_at_first (c ∷ cs) = free_message (state_on c.lent)

abbrev pub said_at : MailCall → Said
said_at c = c.says

-- DONE is written in the first bytes of the response buffer, and nothing else there
abbrev pub DoneAt : MailCall → Type 0
DoneAt c = c.left.response ≡ answered (ids_in (state_on c.lent)) c.lent.response c.packet DONE

-- all messages that calls deliver
abbrev pub mail_in : List MailCall → List Mail
mail_in [] = []
mail_in (c ∷ cs) = c.mail ++ mail_in cs

-- those of that source, letter and mbox
abbrev pub of_name : Posted → List Mail → List Mail
of_name x [] = []
of_name x (y ∷ ys) = cond (is_name x y.source y.letter (y.mailbox % 4)) (y ∷ of_name x ys) (of_name x ys)

-- ---- The calls as the definitions have them: each with the desk that the call before left

-- the message that an answer delivers, if one: its bytes are those that its room holds at that moment
abbrev pub mail_by : List ℕ → Said → List Mail
mail_by memory (message context source letter mailbox size) =
    record { source = source; letter = letter; mailbox = mailbox; bytes = in_room message_room_bytes memory context size } ∷ []
mail_by memory held = []
mail_by memory (delivered context flow stream size) = []
mail_by memory (refused number) = []

abbrev pub call_of : Desk → List ℕ → MailCall
call_of d p = record {
  lent = d;
  packet = p;
  says = (read d p).says;
  left = after d p;
  mail = mail_by (after d p).message_memory (read d p).says;
}

abbrev pub calls_of : Desk → List (List ℕ) → List MailCall
calls_of d [] = []
calls_of d (p ∷ ps) = call_of d p ∷ calls_of (after d p) ps

-- A message is read back by the calls that people make: `read` for each packet, and `message_room` for the message that is delivered.
use Rattle.std.specs.Prelude.{ℕ, ◌≤◌, ◌≡◌, List, [], ◌∷◌, length}
use Rattle.std.specs.Borrow.{Bor}
use Rattle.answers.specs.Answers.{Said, said, held, delivered, message, refused}
use Rattle.refusals.specs.declared.Refusal.{Refusal}
use Rattle.answers.specs.declared.Reading.{Reading}
use Rattle.responses.specs.Type13.{response_size}
use Rattle.contexts.specs.State.{ids_in}
use Rattle.reading.specs.Desk.{Desk, state_on, with_response}
use Rattle.reading.specs.Table.{lent}
use Rattle.reading.specs.Read.{ReadPromise}
use Rattle.room_parts.specs.Parts.{MessageRoomPromise}
use Rattle.mailing.specs.Mail.{Mail, Posted}
use Rattle.mailing.specs.Run.{MailTurn, run_packets, MailCall}
use Rattle.mailing.specs.ReadBack.{setup_of, MailRun, MailReadsBack}

-- a call of `message_room` with the state and the message memory on a desk, wherever that memory lies, and any outcome that its promise
-- allows: the bytes that it hands back
pub record RoomCall (d : Desk) (context size : ℕ) (bytes : List ℕ) : Type 0 where
  pub memory : Bor (List ℕ)
  pub room : Bor (List ℕ)
  pub own : memory.now ≡ d.message_memory
  pub promised : MessageRoomPromise d.words memory context size room
  pub handed : room.now ≡ bytes

-- what the caller has of an answer: of a message, the bytes that `message_room` hands back for its context and its length
abbrev pub FetchesMail : Desk → Said → List Mail → Type 0
FetchesMail d (message context source letter mailbox size) mail =
    (bytes : List ℕ) × RoomCall d context size bytes × (mail ≡ record { source = source; letter = letter; mailbox = mailbox; bytes = bytes } ∷ [])
FetchesMail d held mail = mail ≡ []
FetchesMail d (delivered context flow stream size) mail = mail ≡ []
FetchesMail d (refused number) mail = mail ≡ []

-- `read` for each packet, each with the state and the two memories that the call before left, and with any response buffer that 12 allows;
-- each outcome one that its promise allows; and where it delivers a message, `message_room` before the next call of `read`
pub data MailCalls : Desk → List (List ℕ) → List MailCall → Type 0 where
  all_made : {d : Desk} → MailCalls d [] []
  made : {d : Desk} {p : List ℕ} {ps : List (List ℕ)} {cs : List MailCall} (given : List ℕ) (r : Reading Refusal) (left : Desk) (mail : List Mail)
      → response_size (ids_in (state_on d)) ≤ length given
      → ReadPromise (lent (with_response d given) p) r left
      → FetchesMail left (said r.answer) mail
      → MailCalls left ps cs
      → MailCalls d (p ∷ ps) (record { lent = with_response d given; packet = p; says = said r.answer; left = left; mail = mail } ∷ cs)

-- whatever the calls do that their promises allow: the segments are held, each writes DONE, and at the last one the caller has the message,
-- with the bytes that its own call of `message_room` handed back
abbrev pub MessageReadBackOfCalls : Type 0
MessageReadBackOfCalls =
    (d : Desk) (x : Posted) (turns : List MailTurn) (calls : List MailCall)
    → MailCalls d (run_packets (setup_of d) x turns) calls
    → MailRun d x turns calls
    → MailReadsBack x turns calls

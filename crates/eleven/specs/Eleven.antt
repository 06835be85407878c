-- The premises can be met: document 01's example 11 with other packets around it, and the message of document 01's log, with IDs of either width.
use Rattle.std.specs.Prelude.{ℕ, ◌≡◌, List, [], ◌∷◌, ◌++◌, map, replicate}
use Rattle.answers.specs.Answers.{held, message}
use Rattle.lists.specs.Each.{Each}
use Rattle.reading.specs.Desk.{Desk}
use Rattle.flows.specs.Fresh.{zero_desk, paper_setup_at}
use Rattle.flows.specs.Widths.{both_widths, at_width}
use Rattle.mailing.specs.Mail.{Posted, mail_packet}
use Rattle.mailing.specs.Run.{MailTurn, segment, other, run_packets, MailCall, of_segments, said_at, mail_in}
use Rattle.mailing.specs.ReadBack.{setup_of, MailRun, defined_calls}
use Rattle.mailing.specs.OfCalls.{MailCalls}

-- the paper's desk, with IDs of that width
abbrev pub mail_desk : (narrow : ℕ) → Desk
mail_desk narrow = zero_desk (paper_setup_at narrow)

-- ssize 64, two segments: 64 bytes of 7 at priority 0 and 8 bytes of 9 at priority 2, from source 2 under letter 1 to mailbox 2
abbrev pub eleven : Posted
eleven = record {
  mail = record { source = 2; letter = 1; mailbox = 2; bytes = replicate 64 7 ++ replicate 8 9 };
  ssize = 0b1100;
  priorities = 0 ∷ 2 ∷ [];
}

-- a segment of another message, from source 3, which takes context 0; and a start from source 2
abbrev pub from_three : List ℕ
from_three = 0x1B ∷ 0x00 ∷ 0x01 ∷ 0x00 ∷ 0x03 ∷ 0x19 ∷ 0x60 ∷ replicate 8 1

abbrev pub start_between : List ℕ
start_between = 0x19 ∷ 0x00 ∷ 0x01 ∷ 0x00 ∷ 0x02 ∷ 0x05 ∷ 0x80 ∷ 0x00 ∷ 0x07 ∷ replicate 32 5

-- segment 1 comes first
abbrev pub eleven_turns : (narrow : ℕ) → List MailTurn
eleven_turns narrow = other (at_width narrow from_three) ∷ segment 1 ∷ other (at_width narrow start_between) ∷ segment 0 ∷ []

abbrev pub eleven_calls : (narrow : ℕ) → List MailCall
eleven_calls narrow = defined_calls (mail_desk narrow) eleven (eleven_turns narrow)

-- the message of document 01's log: 8 bytes, one segment
abbrev pub log_mail : Posted
log_mail = record {
  mail = record { source = 2; letter = 1; mailbox = 2; bytes = 0x11 ∷ 0x12 ∷ 0x13 ∷ 0x14 ∷ 0x15 ∷ 0x16 ∷ 0x17 ∷ 0x18 ∷ [] };
  ssize = 0b1001;
  priorities = [];
}

-- both are runs, and these are their packets, to the byte
pub record MailRunsAt (narrow : ℕ) : Type 0 where
  pub two_segments : MailRun (mail_desk narrow) eleven (eleven_turns narrow) (eleven_calls narrow)
  pub one-segment : MailRun (mail_desk narrow) log_mail (segment 0 ∷ []) (defined_calls (mail_desk narrow) log_mail (segment 0 ∷ []))
  -- the calls of the first can be made: they are outcomes that the promises of `read` and `message_room` allow
  pub calls_made : MailCalls (mail_desk narrow) (run_packets (setup_of (mail_desk narrow)) eleven (eleven_turns narrow)) (eleven_calls narrow)
  pub packets : run_packets (setup_of (mail_desk narrow)) eleven (eleven_turns narrow)
      ≡ map (at_width narrow)
      (from_three
      ∷ (0x9B ∷ 0x00 ∷ 0x01 ∷ 0x00 ∷ 0x02 ∷ 0x1C ∷ 0x61 ∷ replicate 8 9)
      ∷ start_between
      ∷ (0x1B ∷ 0x00 ∷ 0x01 ∷ 0x00 ∷ 0x02 ∷ 0x1C ∷ 0x60 ∷ replicate 64 7)
      ∷ [])
  pub log_packet : mail_packet (setup_of (mail_desk narrow)) log_mail 0
      ≡ at_width narrow (0x1B ∷ 0x00 ∷ 0x01 ∷ 0x00 ∷ 0x02 ∷ 0x09 ∷ 0x60 ∷ 0x11 ∷ 0x12 ∷ 0x13 ∷ 0x14 ∷ 0x15 ∷ 0x16 ∷ 0x17 ∷ 0x18 ∷ [])

abbrev pub MailRunsNotEmpty : Type 0
MailRunsNotEmpty = Each MailRunsAt both_widths

-- and what is computed from the definitions, with no law between, is what the theorem says
pub record ElevenAt (narrow : ℕ) : Type 0 where
  pub answers : map said_at (of_segments (eleven_turns narrow) (eleven_calls narrow)) ≡ held ∷ message 1 2 1 2 72 ∷ []
  pub delivers : mail_in (eleven_calls narrow)
      ≡ record { source = 2; letter = 1; mailbox = 2; bytes = replicate 64 7 ++ replicate 8 9 } ∷ []

abbrev pub ElevenDelivered : Type 0
ElevenDelivered = Each ElevenAt both_widths

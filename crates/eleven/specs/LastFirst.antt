-- A message of sixteen segments that comes last-first: held fifteen times, and delivered at segment 0, when sixteen marks are ones. With IDs of
-- either width.
use Rattle.std.specs.Prelude.{ℕ, ◌≡◌, List, [], ◌∷◌, ◌++◌, map, false, replicate}
use Rattle.lists.specs.Each.{Each}
use Rattle.answers.specs.Answers.{held, message}
use Rattle.contexts.specs.State.{message_in, is_free_message}
use Rattle.reading.specs.Table.{Lent, lent, state_in}
use Rattle.counting.specs.Complete.{PassedAllBut25}
use Rattle.flows.specs.Deliveries.{desk_after}
use Rattle.flows.specs.Widths.{both_widths}
use Rattle.mailing.specs.Mail.{Posted, mail_packet}
use Rattle.mailing.specs.Run.{MailTurn, segment, run_packets, MailCall, said_at, mail_in}
use Rattle.mailing.specs.ReadBack.{setup_of, defined_calls}
use Rattle.eleven.specs.Eleven.{mail_desk, log_mail}

-- eight bytes of each number, in turn
abbrev pub eight_of_each : List ℕ → List ℕ
eight_of_each [] = []
eight_of_each (k ∷ ks) = replicate 8 k ++ eight_of_each ks

-- ssize 8, sixteen segments: segment k has eight bytes k, from source 2 under letter 1 to mailbox 2
abbrev pub sixteen_segments : Posted
sixteen_segments = record {
  mail = record {
    source = 2;
    letter = 1;
    mailbox = 2;
    bytes = eight_of_each (0 ∷ 1 ∷ 2 ∷ 3 ∷ 4 ∷ 5 ∷ 6 ∷ 7 ∷ 8 ∷ 9 ∷ 10 ∷ 11 ∷ 12 ∷ 13 ∷ 14 ∷ 15 ∷ []);
  };
  ssize = 0b1001;
  priorities = [];
}

-- all but segment 0, the last of them first
abbrev pub last_to_second : List MailTurn
last_to_second = map segment (15 ∷ 14 ∷ 13 ∷ 12 ∷ 11 ∷ 10 ∷ 9 ∷ 8 ∷ 7 ∷ 6 ∷ 5 ∷ 4 ∷ 3 ∷ 2 ∷ 1 ∷ [])

abbrev pub last_first : (narrow : ℕ) → List MailCall
last_first narrow = defined_calls (mail_desk narrow) sixteen_segments (last_to_second ++ (segment 0 ∷ []))

-- segment 0, which completes it, lent with what the fifteen left
abbrev pub completing : (narrow : ℕ) → Lent
completing narrow =
    lent (desk_after (mail_desk narrow) (run_packets (setup_of (mail_desk narrow)) sixteen_segments last_to_second))
    (mail_packet (setup_of (mail_desk narrow)) sixteen_segments 0)

pub record LastFirstAt (narrow : ℕ) : Type 0 where
  pub answers : map said_at (last_first narrow) ≡ replicate 15 held ++ (message 0 2 1 2 128 ∷ [])
  pub delivers : mail_in (last_first narrow) ≡ sixteen_segments.mail ∷ []
  -- it is such a segment as the count of ones decides, of a message that is open
  pub passed : PassedAllBut25 (completing narrow)
  pub is_open : is_free_message (message_in (state_in (completing narrow)) 0) ≡ false
  -- and this one of a message of one segment: that of document 01's log
  pub passed-alone : PassedAllBut25 (lent (mail_desk narrow) (mail_packet (setup_of (mail_desk narrow)) log_mail 0))

abbrev pub LastFirstDelivered : Type 0
LastFirstDelivered = Each LastFirstAt both_widths

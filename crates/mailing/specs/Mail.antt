-- A message to be sent, its segments to the byte, and what they say when they are read (document 01, 'Packet bytes', type 11).
use Rattle.std.specs.Prelude.{ℕ, ◌+◌, ◌-◌, ◌*◌, ◌/◌, ◌%◌, ◌^◌, ◌≤◌, ◌<◌, ◌≡◌, List, ◌∷◌, Bool, true, cond, length, get_or, take, drop, eqb}
use Rattle.lists.specs.Bytes.{AreBytes}
use Rattle.answers.specs.Answers.{Said, message}
use Rattle.wire.specs.declared.Setup.{Setup}
use Rattle.wire.specs.Packet as packet
use Rattle.wire.specs.Packet.{ids_of, first_byte_of, addressed}
use Rattle.wire.specs.declared.MessageSegment.{MessageSegment}
use Rattle.wire.specs.Parsed.{Message}
use Rattle.wire.specs.Type11.{mailbox}
use Rattle.wire.specs.Parsed.{parsed}
use Rattle.sizes.specs.Sizes.{bytes_of, in_eights}
use Rattle.rules.specs.Messages.{judged}
use Rattle.message_rooms.specs.Placing.{message_data}

-- a message: who sends it, under which letter, to which mailbox, and its bytes
pub record Mail : Type 0 where
  pub source : ℕ
  pub letter : ℕ
  pub mailbox : ℕ
  pub bytes : List ℕ

-- as it is sent: the ssize code, and the priorities of its packets (0 where the list ends)
pub record Posted : Type 0 where
  pub mail : Mail
  pub ssize : ℕ
  pub priorities : List ℕ

abbrev pub priority_at : Posted → ℕ → ℕ
priority_at x k = get_or x.priorities k 0

-- the bytes of every segment but the last
abbrev pub segment_size : Posted → ℕ
segment_size x = bytes_of x.ssize

-- the number of the last segment, from 0: L bytes make ceil(L / ssize) segments
unfoldable pub msglen_of : Posted → ℕ
msglen_of x = (length x.mail.bytes - 1) / segment_size x

-- the data of segment k: ssize bytes, and what is left for the last
unfoldable pub data_at : Posted → ℕ → List ℕ
data_at x k = take (segment_size x) (drop (k * segment_size x) x.mail.bytes)

-- the message has one segment
abbrev pub is_alone : Posted → Bool
is_alone x = eqb (msglen_of x) 0

-- the mailbox is 4 xmbox + mbox; with several segments it is mbox
abbrev pub mbox_of : Posted → ℕ
mbox_of x = x.mail.mailbox % 4

-- the last field of segment k: xmbox where it is the only one, else its number
abbrev pub last_field : Posted → ℕ → ℕ
last_field x k = cond (is_alone x) (x.mail.mailbox / 4) k

-- segment k to the endpoint of that setup, to the byte
unfoldable pub mail_packet : Setup → Posted → ℕ → List ℕ
mail_packet setup x k =
    -- priority, tt, type 11; the IDs
    addressed (ids_of setup) (first_byte_of (ids_of setup) (priority_at x k) 11) setup.device x.mail.source
    -- msglen, ssize
    ((msglen_of x * 16 + x.ssize)
    -- letter, mbox, msgseg or xmbox
    ∷ (x.mail.letter * 64 + mbox_of x * 16 + last_field x k)
    ∷ data_at x k)

-- what can be sent so to that endpoint
pub record Postable (setup : Setup) (x : Posted) : Type 0 where
  pub device_ID : setup.device < 256 ^ ids_of setup
  pub source : x.mail.source < 256 ^ ids_of setup
  pub letter : x.mail.letter < 4
  -- xmbox has four bits
  pub mailbox : x.mail.mailbox < cond (is_alone x) 64 4
  pub bytes : AreBytes x.mail.bytes
  -- 8 to 16 ssize bytes, in eights: so the ssize is none of the reserved, and the segments are 16 at most
  pub size : in_eights (length x.mail.bytes) (16 * segment_size x) ≡ true
  pub priorities : (k : ℕ) → priority_at x k ≤ 3

-- what segment k says
abbrev pub mail_segment : Posted → ℕ → MessageSegment
mail_segment x k = record {
  source = x.mail.source;
  letter = x.mail.letter;
  mbox = mbox_of x;
  msglen = msglen_of x;
  ssize = x.ssize;
  msgseg = last_field x k;
  raw = length (data_at x k);
}

-- the packet of segment k is read as that segment
pub record ReadsAsMail (setup : Setup) (x : Posted) (k : ℕ) : Type 0 where
  pub read : parsed setup (mail_packet setup x k) ≡ Message (mail_segment x k)
  pub priority : packet.priority (mail_packet setup x k) ≡ priority_at x k
  -- rows 20 to 22 pass it
  pub well-formed : judged (mail_segment x k) ≡ 0
  pub mailbox_is : mailbox (mail_segment x k) ≡ x.mail.mailbox
  pub data_are : message_data (ids_of setup) (mail_packet setup x k) ≡ data_at x k
  -- and every entry is a byte
  pub are_bytes : AreBytes (mail_packet setup x k)

-- so is every segment of a message that can be sent
abbrev pub MailSegmentsReadBack : Type 0
MailSegmentsReadBack = (setup : Setup) (x : Posted) (k : ℕ) → Postable setup x → k ≤ msglen_of x → ReadsAsMail setup x k

-- the answer that delivers the message from a context: source, letter, mailbox, length
abbrev pub mail_answer : Posted → (context : ℕ) → Said
mail_answer x context = message context x.mail.source x.mail.letter x.mail.mailbox (length x.mail.bytes)

-- Type 11, message: document 01, 'Packet bytes'; 002 (Part 2, rev. 2.1), 4.2.5 and table 4-4.
use Rattle.std.specs.Prelude.{ℕ, ◌+◌, ◌-◌, ◌*◌, ◌/◌, ◌%◌, List, Bool, cond, ◌||◌, length, eqb}
use Rattle.lists.specs.Bytes.{byte}
use Rattle.wire.specs.Packet.{header, source}
use Rattle.wire.specs.declared.MessageSegment.{MessageSegment}

-- the byte behind the IDs: msglen 4, ssize 4
abbrev pub msglen : (ids : ℕ) → List ℕ → ℕ
msglen ids p = byte p (header ids) / 16

abbrev pub ssize : (ids : ℕ) → List ℕ → ℕ
ssize ids p = byte p (header ids) % 16

-- the next: letter 2, mbox 2, msgseg 4
abbrev pub letter : (ids : ℕ) → List ℕ → ℕ
letter ids p = byte p (header ids + 1) / 64

abbrev pub mbox : (ids : ℕ) → List ℕ → ℕ
mbox ids p = byte p (header ids + 1) / 16 % 4

abbrev pub msgseg : (ids : ℕ) → List ℕ → ℕ
msgseg ids p = byte p (header ids + 1) % 16

-- then data
abbrev pub message_data_from : (ids : ℕ) → ℕ
message_data_from ids = header ids + 2

-- what a type 11 packet says
unfoldable pub message_of : (ids : ℕ) → List ℕ → MessageSegment
message_of ids p = record {
  source = source ids p;
  letter = letter ids p;
  mbox = mbox ids p;
  msglen = msglen ids p;
  ssize = ssize ids p;
  msgseg = msgseg ids p;
  raw = length p - message_data_from ids;
}

-- msglen 0: one segment, whose last field is no number but xmbox
abbrev pub is_single : MessageSegment → Bool
is_single m = eqb m.msglen 0

-- segment msglen is the last; with msglen 0 the only one is
abbrev pub is_last : MessageSegment → Bool
is_last m = is_single m || eqb m.msgseg m.msglen

-- 4 xmbox + mbox for the only segment, else mbox
abbrev pub mailbox : MessageSegment → ℕ
mailbox m = cond (is_single m) (4 * m.msgseg + m.mbox) m.mbox

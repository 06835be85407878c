-- What an example of document 01 is, and what it means that it comes out: the packets are read one after the other by the written definitions.
use Rattle.std.specs.Prelude.{ℕ, zero, suc, ◌+◌, ◌%◌, ◌≡◌, List, [], ◌∷◌, map, Bool, true, false, cond, ◌&&◌, length, eqb}
use Rattle.lists.specs.Bytes.{byte, word}
use Rattle.answers.specs.Answers.{Said, held, delivered, message, refused}
use Rattle.wire.specs.Packet.{header}
use Rattle.contexts.specs.declared.StreamContext.{StreamContext}
use Rattle.contexts.specs.State.{ids_in, stream_in}
use Rattle.message_rooms.specs.Placing.{message_room_bytes}
use Rattle.cutting.specs.declared.Heading.{Heading}
use Rattle.cutting.specs.Cutting.{segment_count, packet_of}
use Rattle.reading.specs.Desk.{Desk, state_on}
use Rattle.flows.specs.Fresh.{zero_desk, paper_setup_at}
use Rattle.flows.specs.Deliveries.{read, after, in_room}

-- ---- What is sent

-- n bytes that count up from `first`, going round at 256
abbrev pub counting : (first n : ℕ) → List ℕ
counting first zero = []
counting first (suc n) = first % 256 ∷ counting (first + 1) n

-- n packets of a PDU, from number k on
abbrev pub segments : Heading → (mtu : ℕ) → List ℕ → (k n : ℕ) → List (List ℕ)
segments h mtu pdu k zero = []
segments h mtu pdu k (suc n) = packet_of h mtu pdu k ∷ segments h mtu pdu (k + 1) n

-- all packets of a PDU
abbrev pub cut : Heading → (mtu : ℕ) → List ℕ → List (List ℕ)
cut h mtu pdu = segments h mtu pdu 0 (segment_count mtu (length pdu))

-- ---- What the paper says of a packet

pub data Fact : Type 0 where
  -- the packet is so many bytes long
  has_bytes : ℕ → Fact
  -- its byte at a place
  has_byte : (place value : ℕ) → Fact
  -- the two bytes behind its flags, where they are the PDU length
  length_field : ℕ → Fact
  -- these bytes are delivered
  delivers : List ℕ → Fact
  -- what is delivered is not this
  delivers_not : List ℕ → Fact
  -- what the response buffer then holds
  response : List ℕ → Fact
  -- what a stream context then holds
  context_holds : (context : ℕ) → StreamContext → Fact

pub data Line : Type 0 where
  -- the packet is lost
  lost : Line
  -- it arrives: the answer, whether it says dropped, and what else the paper says
  arrives : Said → Bool → List Fact → Line

abbrev pub gets : Said → List Fact → Line
gets says facts = arrives says false facts

abbrev pub gets_dropped : Said → List Fact → Line
gets_dropped says facts = arrives says true facts

-- an example: its number in the paper, the width of an ID, the packets that are sent, and a line for each
pub record Example : Type 0 where
  pub number : ℕ
  pub narrow : ℕ
  pub sent : List (List ℕ)
  pub lines : List Line

-- with IDs of 16 bits, as the paper has them
abbrev pub example : ℕ → List (List ℕ) → List Line → Example
example number sent lines = record { number = number; narrow = 0; sent = sent; lines = lines }

-- the same with IDs of 8 bits (document 02, M-112)
abbrev pub narrow_example : ℕ → List (List ℕ) → List Line → Example
narrow_example number sent lines = record { number = number; narrow = 1; sent = sent; lines = lines }

-- ---- What is computed

-- the bytes that an answer delivers: those that its room holds at that moment
abbrev pub delivered_bytes : Desk → Said → List ℕ
delivered_bytes d (delivered context flow stream size) = in_room (state_on d).setup.room d.stream_memory context size
delivered_bytes d (message context source letter mailbox size) = in_room message_room_bytes d.message_memory context size
delivered_bytes d held = []
delivered_bytes d (refused number) = []

abbrev pub same_bytes : List ℕ → List ℕ → Bool
same_bytes [] [] = true
same_bytes [] (y ∷ ys) = false
same_bytes (x ∷ xs) [] = false
same_bytes (x ∷ xs) (y ∷ ys) = eqb x y && same_bytes xs ys

-- a fact of the same kind, as it is for this packet at this desk
abbrev pub found : Desk → List ℕ → Fact → Fact
found d p (has_bytes n) = has_bytes (length p)
found d p (has_byte place n) = has_byte place (byte p place)
found d p (length_field n) = length_field (word p (header (ids_in (state_on d)) + 2))
found d p (delivers bytes) = delivers (delivered_bytes (after d p) (read d p).says)
found d p (delivers_not bytes) = cond (same_bytes (delivered_bytes (after d p) (read d p).says) bytes) (delivers bytes) (delivers_not bytes)
found d p (response bytes) = response (after d p).response
found d p (context_holds context c) = context_holds context (stream_in (state_on (after d p)) context)

-- the lines as they are for these packets, each read with what the one before left. Where there are more packets than lines, a line too many
abbrev pub computed : Desk → List (List ℕ) → List Line → List Line
computed d [] lines = []
computed d (p ∷ ps) [] = lost ∷ []
computed d (p ∷ ps) (lost ∷ lines) = lost ∷ computed d ps lines
computed d (p ∷ ps) (arrives says dropped facts ∷ lines) = arrives (read d p).says (read d p).dropped (map (found d p) facts) ∷ computed (after d p) ps lines

-- ---- What is stated

-- the paper's desk, with IDs of the example's width
abbrev pub desk_of : Example → Desk
desk_of e = zero_desk (paper_setup_at e.narrow)

-- an example comes out as it says
abbrev pub Holds : Example → Type 0
Holds e = computed (desk_of e) e.sent e.lines ≡ e.lines

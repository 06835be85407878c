-- THE IMPOSTORS of document 01 ('How far a promise reaches'): endpoints that keep many a rule and cheat. Each breaks the demand itself that the paper
-- names; the one that keeps the context after 11 is from 'Easy ways to be wrong', and breaks the joint's statement. Where it can, the statement is of
-- every endpoint of that kind.
use Rattle.std.specs.Prelude.{ℕ, suc, ◌+◌, ◌≡◌, List, Bool, cond, length, eqb}
use Rattle.answers.specs.Answers.{Said, held, delivered, message, refused}
use Rattle.wire.specs.declared.Flow.{Flow}
use Rattle.wire.specs.Packet.{tt}
use Rattle.wire.specs.Type9.{is_s}
use Rattle.wire.specs.declared.Setup.{Setup}
use Rattle.reading.specs.Desk.{Desk, with_streams}
use Rattle.reading.specs.Read.{settled}
use Rattle.cutting.specs.declared.Heading.{Heading}
use Rattle.flows.specs.Deliveries.{Endpoint, read, after}
use Rattle.flows.specs.Fresh.{Fresh}
use Rattle.sending.specs.Sending.{Sent, packet_count, Ranges, FairPDU}
use Rattle.sending.specs.OfSendings.{packet_at, desk_at}
use Rattle.demands.specs.Demands.{Demand2Of, Writer, Demand2OfWriter, Demand3Of, JointOf, OursMeets, OurWriterMeets}

-- it refuses or holds every packet: no answer of it delivers a PDU
abbrev pub NeverDelivers : Endpoint → Type 0
NeverDelivers e = (d : Desk) (p : List ℕ) (context : ℕ) (flow : Flow) (stream size : ℕ) → (e d p).says ≡ delivered context flow stream size → ⊥

-- it always delivers the same: whatever it delivers, at whatever packet, is answered by the same words
abbrev pub AlwaysTheSame : Endpoint → Said → Type 0
AlwaysTheSame e same =
    (d : Desk) (p : List ℕ) (context : ℕ) (flow : Flow) (stream size : ℕ) → (e d p).says ≡ delivered context flow stream size → (e d p).says ≡ same

-- a start or single, with IDs of the width that tt says: 01 is two bytes, 00 one
abbrev pub is_start : List ℕ → Bool
is_start p = is_s (tt p + 1) p

-- it stores the start and then only moves the count: of the stream memory only a start or single changes anything, as ours does. It may answer what it
-- likes and leave what it likes in the words
abbrev pub StoresOnlyStarts : Endpoint → Type 0
StoresOnlyStarts e = (d : Desk) (p : List ℕ) → (e d p).desk.stream_memory ≡ cond (is_start p) (after d p).stream_memory d.stream_memory

-- the one of them that answers and counts as ours does
abbrev pub count_mover : Endpoint
count_mover d p =
    settled (read d p).says (read d p).dropped (read d p).replied
    (with_streams (after d p) (after d p).words (cond (is_start p) (after d p).stream_memory d.stream_memory))

-- it invents the length: all is as ours but the length of what is delivered, which it takes from anywhere
abbrev pub resized : Said → ℕ → Said
resized (delivered context flow stream size) n = delivered context flow stream n
resized held n = held
resized (message context source letter mailbox size) n = message context source letter mailbox size
resized (refused number) n = refused number

abbrev pub inventor : (Desk → List ℕ → ℕ) → Endpoint
inventor size d p = settled (resized (read d p).says (size d p)) (read d p).dropped (read d p).replied (after d p)

-- it keeps the context after 11, so that a later end can complete it
abbrev pub kept_after : Said → List ℕ → List ℕ → List ℕ
kept_after (refused number) before now = cond (eqb number 11) before now
kept_after held before now = now
kept_after (delivered context flow stream size) before now = now
kept_after (message context source letter mailbox size) before now = now

abbrev pub keeper : Endpoint
keeper d p =
    settled (read d p).says (read d p).dropped (read d p).replied
    (with_streams (after d p) (kept_after (read d p).says d.words (after d p).words) (after d p).stream_memory)

-- a writer that does nothing, whatever it says
abbrev pub Idle : Writer → Type 0
Idle w = (out : List ℕ) (h : Heading) (mtu : ℕ) (pdu : List ℕ) (k : ℕ) → (w out h mtu pdu k).out ≡ out

pub record ImpostorsBreak : Type 0 where
  -- ours meets the demands, and so does our writer
  pub honest : OursMeets
  pub honest_writer : OurWriterMeets
  -- one that refuses or holds every packet: demand 3 wants the whole PDUs delivered
  pub silent : (e : Endpoint) → NeverDelivers e → Demand3Of e → ⊥
  -- one that always delivers the same: 2
  pub same : (e : Endpoint) (says : Said) → AlwaysTheSame e says → Demand2Of e → ⊥
  -- one that stores the start and then only moves the count: 2 by the room's bytes, 3 by the delivered bytes. There is such an endpoint
  pub count_mover2 : (e : Endpoint) → StoresOnlyStarts e → Demand2Of e → ⊥
  pub count_mover3 : (e : Endpoint) → StoresOnlyStarts e → Demand3Of e → ⊥
  pub count_mover_lem : StoresOnlyStarts count_mover
  -- one that invents the length: 2, by the sum of data, as soon as it is another at the last packet of one PDU
  pub invents : (size : Desk → List ℕ → ℕ) (setup : Setup) (flow : Flow) (s : Sent) (d : Desk) (k : ℕ) → Fresh setup d → Ranges setup flow → FairPDU setup.room s
      → suc k ≡ packet_count setup.mtu s
      → (size (desk_at (inventor size) setup flow s d k) (packet_at setup flow s k) ≡ length s.pdu.bytes → ⊥)
      → Demand2Of (inventor size) → ⊥
  -- one that keeps the context after 11: the joint, which is delivered in no other case
  pub keeps : JointOf keeper → ⊥
  -- a writer that does nothing: 2
  pub idle : (w : Writer) → Idle w → Demand2OfWriter w → ⊥

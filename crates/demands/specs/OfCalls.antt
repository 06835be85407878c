-- DEMANDS 2 AND 3 OF THE CALLS THAT PEOPLE MAKE. Of calls from C and of bursts: c_promises/specs/OfCalls.antt.
use Rattle.std.specs.Prelude.{ℕ, ◌^◌, ◌≤◌, ◌<◌, ◌≡◌, List, [], ◌∷◌, false, length, Ok}
use Rattle.wire.specs.declared.Flow.{Flow}
use Rattle.sizes.specs.Sizes.{bad_mtu}
use Rattle.wire.specs.declared.Setup.{Setup}
use Rattle.wire.specs.Packet.{ids_of}
use Rattle.reading.specs.Desk.{Desk}
use Rattle.endpoint.specs.Calls.{SetupPromise}
use Rattle.writing.specs.Writer.{CountPromise}
use Rattle.flows.specs.Deliveries.{Delivery, delivery}
use Rattle.flows.specs.Fresh.{Lends, Fresh}
use Rattle.sending.specs.Sending.{Sent, Sending, packets, whole, FairPDU, FairlySent, OneLossEach, NoNeighboursLose, Fair}
use Rattle.sending.specs.OfSendings.{first_turns}
use Rattle.calls.specs.Calls.{Reads}
use Rattle.demands.specs.Writes.{Writes}

-- From fresh: `setup` said ready, for a device ID in 16 bits (47 has seen to it that it fits its width), and left the desk's words; and memories that
-- 12 allows are lent, whatever is in them
pub record SetUp (setup : Setup) (d : Desk) : Type 0 where
  pub device_ID : setup.device < 65536
  pub before : List ℕ
  pub ready : SetupPromise before setup (Ok tt) d.words
  pub lends : Lends setup d

abbrev pub SetUpIsFresh : Type 0
SetUpIsFresh = (setup : Setup) (d : Desk) → SetUp setup d → Fresh setup d

-- DEMAND 2, of the calls: `setup`, as many calls of the writer as `segment_count` says, and a call of `read` for each packet with what is fetched
-- after it. They deliver exactly that PDU
abbrev pub Demand2OfCalls : Type 0
Demand2OfCalls =
    (setup : Setup) (d : Desk) (flow : Flow) (s : Sent) (count : ℕ) (ps : List (List ℕ)) (ds : List Delivery)
    -- an endpoint of that address, width and MTU, from fresh
    → SetUp setup d
    -- a PDU that its room holds, with fields in their ranges
    → flow.source < 256 ^ ids_of setup → flow.priority ≤ 3 → flow.cos < 256 → FairPDU setup.room s
    -- segments 0 to count-1, each written into any buffer
    → CountPromise setup.mtu (length s.pdu.bytes) count → Writes setup flow s 0 count ps
    -- read one after the other
    → Reads d ps ds
    → ds ≡ delivery flow s.pdu ∷ []

-- DEMAND 3, of the calls. Its sentence stands here clause by clause, each above what says it; 'one PDU at a time on each, cut by the rules, addressed
-- to the endpoint, each flow in order' is how `packets` is made of a sending: at its turn a flow puts its next packet on
abbrev pub Demand3OfCalls : Type 0
Demand3OfCalls =
    (setup : Setup) (d : Desk) (s : Sending) (ds : List Delivery)
    -- From fresh:
    → SetUp setup d
    -- whole PDUs, each no longer than a room (its field `flows`), on at most sixteen flows (`sixteen`), flows mixed at will, message packets between
    -- (`turns`: these, and any others that are no type 9 segment for us);
    → FairlySent setup s
    -- no PDU loses more than one packet,
    → OneLossEach setup s
    -- no two neighbouring PDUs on one flow both lose one;
    → NoNeighboursLose setup s
    -- nobody abandons a context or writes the memories between (each call takes what the one before left).
    → Reads d (packets setup s) ds
    -- Then the PDUs delivered are exactly those that lost nothing, with flow, stream and bytes, in the order of their last packets
    → ds ≡ whole setup s

-- stronger: however many packets of a PDU are lost; and at every moment, after n turns
abbrev pub Demand3AnyLoss : Type 0
Demand3AnyLoss =
    (setup : Setup) (d : Desk) (s : Sending) (n : ℕ) (ds : List Delivery)
    → SetUp setup d → FairlySent setup s → NoNeighboursLose setup s
    → Reads d (packets setup (first_turns n s)) ds
    → ds ≡ whole setup (first_turns n s)

-- so two sendings that leave the same packets agree on every whole PDU
abbrev pub Corollary3 : Type 0
Corollary3 =
    (setup : Setup) (s s' : Sending) → setup.device < 256 ^ ids_of setup → bad_mtu setup.mtu ≡ false → setup.room ≤ 65536
    → Fair setup s → Fair setup s' → packets setup s ≡ packets setup s' → whole setup s ≡ whole setup s'

-- The premises can be met.
use Prim.Native.Nat.{ℕ, zero, suc, ◌+◌, ◌^◌, ◌≤◌, ◌<◌}
use mathlib.Core.Path.{◌≡◌, refl}
use mathlib.Core.List.{List, [], ◌∷◌}
use mathlib.Core.Bool.{false}
use native.Mathlib.Omega.{arith}
use lib.ListN.{length, take, drop, replicate, length-replicate}
use denote.Ref.{Bor}
use Rattle.lists.specs.Bytes.{AreBytes}
use Rattle.lists.specs.Each.{Each}
use Rattle.lists.proofs.Below.{below, are_bytes}
use Rattle.answers.specs.Answers.{Said, held, delivered, message, refused, said}
use Rattle.tables.specs.Refusals.{verdict}
use Rattle.wire.specs.declared.Flow.{Flow}
use Rattle.wire.specs.Parsed.{parsed}
use Rattle.sizes.specs.Sizes.{bad_mtu}
use Rattle.refusal19.specs.Refusal19.{bad_room}
use Rattle.wire.specs.declared.Setup.{Setup}
use Rattle.wire.specs.Packet.{id_bytes, too_wide}
use Rattle.responses.specs.Type13.{response_size}
use Rattle.contexts.specs.State.{ids_in}
use Rattle.contexts.specs.Words.{state_words}
use Rattle.reading.specs.Desk.{Desk, state_on, with_response}
use Rattle.reading.specs.Table.{Lent, lent, lent_refusal}
use Rattle.reading.specs.Read.{reading}
use Rattle.reading.proofs.Spoken.{answered_by, promised}
use Rattle.cutting.specs.Cutting.{segment_count}
use Rattle.endpoint.specs.Calls.{setup_table, setup}
use Rattle.room_parts.specs.Parts.{Part, stream_room}
use Rattle.flows.specs.Deliveries.{Delivery}
use Rattle.flows.specs.Fresh.{Allowed, zero_desk, paper_setup_at}
use Rattle.flows.specs.Widths.{both_widths}
use Rattle.sending.specs.Sending.{Sent, packet_count, put_of, packets, FairPDU}
use Rattle.sending.specs.OfSendings.{packet_at}
use Rattle.sending.specs.Joint.{is_joint}
use Rattle.sending.specs.Mixture.{small_setup, mixture}
use Rattle.sending.proofs.Decided.{each_by, fair_PDU, deciding}
use Rattle.priorities.specs.Apart.{first, later}
use Rattle.paper_examples.proofs.Computing.{computing}
use Rattle.calls.specs.Calls.{Fetches, room, none-held, none_message, none_refused, Reads, stop, call}
use Rattle.demands.specs.Writes.{Writes, written_all, write}
use Rattle.demands.specs.OfCalls.{SetUp}
use Rattle.demands.specs.Witnesses.{CallsNotEmpty, WritesNotEmpty, AllowedNotEmpty, FlowsNotEmpty, PriorityNotEmpty, end_lost, start_lost, JointAt, JointNotEmpty, WidthsNotEmpty}
use Rattle.demands.proofs.Widths.{fits_width, in_16_bits}
use Rattle.demands.proofs.Demands.{zeros-fresh}
use Rattle.demands.proofs.Writing.{counted, written_well}

-- ---- Calls

sets_up : (s : Setup) → Allowed s → SetUp s (zero_desk s)
unfolding setup setup_table verdict
sets_up s allowed = record {
  device_ID = in_16_bits s.narrow s.device allowed.device_ID;
  before = replicate state_words 0;
  ready = rw (fits_width s.narrow s.device allowed.device_ID, allowed.allowed_MTU, allowed.allowed_R);
  lends = (zeros-fresh s allowed).lends;
}

-- a room call can be made over any memory
fetch_made : (d : Desk) (says : Said) → (fetched : List Delivery) × Fetches d says fetched
fetch_made d held = (_, none-held)
fetch_made d (message context source letter mailbox size) = (_, none_message)
fetch_made d (refused number) = (_, none_refused)
fetch_made d (delivered context flow stream size) = (_, room memory handed refl (record { block = refl; offset = refl; bytes = refl }))
  where
    q : Part
    q = stream_room d.words (length d.stream_memory) context size

    memory : Bor (List ℕ)
    memory = record { ref_ptr = (0, 0); now = d.stream_memory }

    handed : Bor (List ℕ)
    handed = record { ref_ptr = (0, 0 + q.from); now = take q.size (drop q.from d.stream_memory) }

-- a call for each packet, with a response buffer of 7; with IDs of one byte, 5
calls_made : (ps : List (List ℕ)) (d : Desk) → (ds : List Delivery) × Reads d ps ds
calls_made [] d = ([], stop)
calls_made (p ∷ ps) d =
    let size : ℕ = response_size (ids_in (state_on d)) in
    let long : size ≤ length {A = ℕ} (replicate size 0) = omega (arith, length-replicate {A = ℕ} size 0) in
    let x : Lent = lent (with_response d (replicate size 0)) p in
    let fetch = fetch_made (reading x).desk (said (answered_by x).answer) in
    let rest = calls_made ps (reading x).desk in
    (_, call (answered_by x) (replicate size 0) long (promised x) fetch.1 rest.1)

-- the writer, with a buffer as long as the packet
module _ (s : Setup) (flow : Flow) (x : Sent) (allowed : Allowed s) (source : too_wide s.narrow flow.source ≡ false) (priority : flow.priority ≤ 3) (fair : FairPDU s.room x) where
  writes-made : (n k : ℕ) → k + n ≡ packet_count s.mtu x → (ps : List (List ℕ)) × Writes s flow x k n ps
  writes-made zero k e = (_, written_all)
  writes-made (suc n) k e =
      let packet : List ℕ = packet_at s flow x k in
      (_, write packet _ _ (written_well s flow x allowed source priority fair packet k (omega arith) (omega arith)) (writes-made n (suc k) (omega arith)).1)

pub writes_not_empty : WritesNotEmpty
writes_not_empty s flow x count allowed source priority fair says = writes-made s flow x allowed source priority fair count 0 (omega (arith, says, counted s flow x allowed source priority fair))

pub calls_not_empty : CallsNotEmpty
calls_not_empty = record { sets_up = sets_up; reads = λ d ps. calls_made ps d; writes = writes_not_empty }

pub allowed_not_empty : AllowedNotEmpty
unfolding id_bytes bad_mtu bad_room
allowed_not_empty = (
  record { device_ID = omega arith; allowed_MTU = refl; allowed_R = refl },
  (record { device_ID = omega arith; allowed_MTU = refl; allowed_R = refl }, tt),
)

-- ---- Packets of three flows

small_allowed : Each (λ (narrow : ℕ). Allowed (small_setup narrow)) both_widths
unfolding id_bytes bad_mtu bad_room
small_allowed = (
  record { device_ID = omega arith; allowed_MTU = refl; allowed_R = refl },
  (record { device_ID = omega arith; allowed_MTU = refl; allowed_R = refl }, tt),
)

pub flows_not_empty : FlowsNotEmpty
unfolding deciding computing parsed put_of
flows_not_empty = (
  record {
    fresh = zeros-fresh (small_setup 0) small_allowed.0;
    few = omega arith;
    bytes = each_by AreBytes (below 256) are_bytes (packets (small_setup 0) (mixture 0)) refl;
    occur = (refl, (refl, (refl, (refl, (refl, (refl, (refl, (refl, (refl, tt)))))))));
  },
  (
    record {
      fresh = zeros-fresh (small_setup 1) small_allowed.1.0;
      few = omega arith;
      bytes = each_by AreBytes (below 256) are_bytes (packets (small_setup 1) (mixture 1)) refl;
      occur = (refl, (refl, (refl, (refl, (refl, (refl, (refl, (refl, (refl, tt)))))))));
    },
    tt,
  ),
)

pub priority_not_empty : PriorityNotEmpty
unfolding computing put_of
priority_not_empty = (
  record { all_but = record { first_byte = refl; others = refl; differ = λ e. omega (arith, e) }; ordinary_came = later (later (later first)); urgent_came = later (later (later (later first))) },
  (
    record { all_but = record { first_byte = refl; others = refl; differ = λ e. omega (arith, e) }; ordinary_came = later (later (later first)); urgent_came = later (later (later (later first))) },
    tt,
  ),
)

-- ---- A joint
pub joint_not_empty : JointNotEmpty
unfolding deciding segment_count is_joint id_bytes
joint_not_empty = (at 0 allowed_not_empty.0 (omega arith), (at 1 allowed_not_empty.1.0 (omega arith), tt))
  where
    at : (narrow : ℕ) → Allowed (paper_setup_at narrow) → 2 < 256 ^ id_bytes narrow → JointAt narrow
    at narrow allowed source = record {
      pair = record {
        ranges = record { allowed = allowed; source = source; priority = omega arith; cos = omega arith };
        first_fair = fair_PDU 2048 end_lost refl;
        second_fair = fair_PDU 2048 start_lost refl;
        first_loses = refl;
        second_loses = refl;
      };
      joint = refl;
    }

pub widths_not_empty : WidthsNotEmpty
unfolding computing lent_refusal
widths_not_empty = record {
  lent_well = (refl, (refl, tt));
  of_16 = refl;
  of_8 = refl;
  small = (omega arith, omega arith);
  long = (omega arith, omega arith);
}

-- The premises can be met: there are fresh desks, calls that keep their promises, sendings, and a joint.
use Rattle.std.specs.Prelude.{ℕ, ◌≤◌, ◌<◌, ◌≡◌, List, [], ◌∷◌, true, false, length}
use Rattle.lists.specs.Each.{Each}
use Rattle.wire.specs.declared.Flow.{Flow}
use Rattle.wire.specs.declared.Setup.{Setup}
use Rattle.wire.specs.Packet.{header, tt, tt_of, destination, source, too_wide}
use Rattle.reading.specs.Desk.{Desk}
use Rattle.reading.specs.Table.{lent_refusal}
use Rattle.writing.specs.Writer.{CountPromise}
use Rattle.flows.specs.OneFlow.{pdu}
use Rattle.flows.specs.Deliveries.{Delivery}
use Rattle.flows.specs.Fresh.{Allowed, zero_desk, paper_setup_at}
use Rattle.flows.specs.Widths.{both_widths, narrowed}
use Rattle.flows.specs.Apart.{AtMostSixteenFlows}
use Rattle.priorities.specs.Apart.{AllButPriority, Among}
use Rattle.sending.specs.Sending.{Sent, packets, FairPDU}
use Rattle.sending.specs.OfSendings.{packet_at}
use Rattle.sending.specs.Joint.{Pair, is_joint}
use Rattle.sending.specs.Mixture.{small_setup, five, urgent_five, six, sound, urgent, letter_one, mixture}
use Rattle.paper_examples.specs.Table.{source_of, first_pdu, second_pdu}
use Rattle.calls.specs.Calls.{Reads}
use Rattle.demands.specs.Writes.{Writes}
use Rattle.demands.specs.OfCalls.{SetUp}

-- every PDU that a room holds can be written, from a source that 47 passes and at a priority that 17 passes, by as many calls as `segment_count` says
abbrev pub WritesNotEmpty : Type 0
WritesNotEmpty =
    (setup : Setup) (flow : Flow) (s : Sent) (count : ℕ) → Allowed setup → too_wide setup.narrow flow.source ≡ false → flow.priority ≤ 3 → FairPDU setup.room s
    → CountPromise setup.mtu (length s.pdu.bytes) count
    → (ps : List (List ℕ)) × Writes setup flow s 0 count ps

-- the calls can be made: setup says ready at a desk whose memories are zeros; at any desk there are calls for any packets; and the writer's
pub record CallsNotEmpty : Type 0 where
  pub sets_up : (setup : Setup) → Allowed setup → SetUp setup (zero_desk setup)
  pub reads : (d : Desk) (ps : List (List ℕ)) → (ds : List Delivery) × Reads d ps ds
  pub writes : WritesNotEmpty

-- there are numbers that setup takes, with IDs of either width
abbrev pub AllowedNotEmpty : Type 0
AllowedNotEmpty = Each (λ (narrow : ℕ). Allowed (paper_setup_at narrow)) both_widths

-- there are packets of at most sixteen flows: those that the mixture leaves
abbrev pub FlowsNotEmpty : Type 0
FlowsNotEmpty =
    Each (λ (narrow : ℕ). AtMostSixteenFlows (small_setup narrow) (zero_desk (small_setup narrow)) (five ∷ urgent_five ∷ six ∷ []) (packets (small_setup narrow) (mixture narrow))) both_widths

-- two of these agree in all but their priority
abbrev pub ordinary_start : (narrow : ℕ) → List ℕ
ordinary_start narrow = packet_at (small_setup narrow) five sound 0

abbrev pub urgent_start : (narrow : ℕ) → List ℕ
urgent_start narrow = packet_at (small_setup narrow) urgent_five urgent 0

pub record PrioritiesAt (narrow : ℕ) : Type 0 where
  pub all_but : AllButPriority (ordinary_start narrow) (urgent_start narrow)
  pub ordinary_came : Among (ordinary_start narrow) (packets (small_setup narrow) (mixture narrow))
  pub urgent_came : Among (urgent_start narrow) (packets (small_setup narrow) (mixture narrow))

abbrev pub PriorityNotEmpty : Type 0
PriorityNotEmpty = Each PrioritiesAt both_widths

-- example 9: two PDUs of 40 bytes, the first without its end, the second without its start
abbrev pub end_lost : Sent
end_lost = record { pdu = pdu 7 first_pdu; lost = 1 ∷ [] }

abbrev pub start_lost : Sent
start_lost = record { pdu = pdu 8 second_pdu; lost = 0 ∷ [] }

-- they are such a pair, and a joint
pub record JointAt (narrow : ℕ) : Type 0 where
  pub pair : Pair (paper_setup_at narrow) (source_of 2) end_lost start_lost
  pub joint : is_joint (paper_setup_at narrow).mtu end_lost start_lost ≡ true

abbrev pub JointNotEmpty : Type 0
JointNotEmpty = Each JointAt both_widths

-- the paper's message with IDs of 16 bits: at a desk of that width it can be told from the same with IDs of 8, and there it is refused (flows/specs/Widths.antt)
pub record WidthsNotEmpty : Type 0 where
  -- desks of both widths, with nothing that rows 19 and 12 refuse
  pub lent_well : Each (λ (narrow : ℕ). lent_refusal (zero_desk (paper_setup_at narrow)) ≡ 0) both_widths
  -- it has the tt of 16 bits, IDs below 256, and bytes enough at either width
  pub of_16 : tt letter_one ≡ tt_of 2
  pub of_8 : tt (narrowed letter_one) ≡ tt_of 1
  pub small : (destination 2 letter_one < 256) × (source 2 letter_one < 256)
  pub long : (header 2 ≤ length letter_one) × (header 2 ≤ length (narrowed letter_one))

-- Each impostor on a sending that shows it: what it answers and leaves is computed, or known of its kind, and held against what the demand wants.
use Prim.Native.Nat.{ℕ, zero, suc, ◌+◌, ◌*◌, ◌<◌}
use mathlib.Core.Path.{◌≡◌, refl, ap, sym, ◌∙◌, subst}
use mathlib.Core.List.{List, [], ◌∷◌, ◌++◌}
use mathlib.Core.Bool.{Bool, true, false, cond, not, ◌&&◌}
use native.Mathlib.Omega.{arith}
use lib.ListN.{length, get_or, take, drop, replicate, length-replicate}
use lib.Seq.{get_or-drop}
use lib.Dec.{ltb}
use Rattle.lists.specs.Each.{Each}
use Rattle.lists.proofs.Below.{below, below_at}
use Rattle.answers.specs.Answers.{Said, held, delivered, message, refused, WriterSaid, wrote, write_refused}
use Rattle.wire.specs.declared.Flow.{Flow}
use Rattle.tables.specs.Refusals.{all, refuse, verdict}
use Rattle.lists.specs.Bytes.{number}
use Rattle.wire.specs.Packet.{header, id_bytes}
use Rattle.wire.specs.Head.{head_rows}
use Rattle.wire.specs.Parsed.{parsed_by, parsed}
use Rattle.sizes.specs.Sizes.{bad_mtu}
use Rattle.refusal19.specs.Refusal19.{bad_room}
use Rattle.wire.specs.declared.Setup.{Setup}
use Rattle.contexts.specs.State.{fixed}
use Rattle.reading.specs.Desk.{Desk, state_on}
use Rattle.cutting.specs.Cutting.{segment_count}
use Rattle.flows.specs.OneFlow.{pdu}
use Rattle.flows.specs.Deliveries.{Endpoint, Delivery, delivery, delivered_by, deliveries_by, deliveries, read, after, in_room}
use Rattle.flows.specs.Fresh.{Allowed, Fresh, zero_desk}
use Rattle.writing.specs.Writer.{Wrote}
use Rattle.sending.specs.Sending.{Sent, heading_for, put_of, Ranges, FairPDU, between, Sending, Fair}
use Rattle.sending.specs.OfSendings.{packet_at, desk_at, says_at, HandsBack}
use Rattle.sending.specs.Joint.{in_turn, is_joint, Pair}
use Rattle.sending.proofs.Decided.{all_of, is_fair_turn, is_segment, is_fair, fair_PDU, is_fair_lem, deciding}
use Rattle.paper_examples.specs.Example.{counting}
use Rattle.paper_examples.specs.Table.{source_of, first_pdu, second_pdu}
use Rattle.paper_examples.proofs.Computing.{computing}
use Rattle.demands.specs.Demands.{Demand2Of, Demand3Of, JointOf, Writer, stands_in, Demand2OfWriter}
use Rattle.demands.specs.Impostors.{NeverDelivers, AlwaysTheSame, StoresOnlyStarts, resized, inventor, keeper, Idle, ImpostorsBreak}
use Rattle.demands.proofs.Demands.{ours_meets, our_writer_meets, zeros-fresh}

-- ---- Two PDUs of 40 bytes, each of a start and an end, sent whole from source 2 to a fresh desk. MTU 32, R 96

abbrev here : Setup
here = fixed 1 32 96 0

here_allowed : Allowed here
unfolding id_bytes bad_mtu bad_room
here_allowed = record { device_ID = omega arith; allowed_MTU = refl; allowed_R = refl }

here-fresh : Fresh here (zero_desk here)
here-fresh = zeros-fresh here here_allowed

abbrev from2 : Flow
from2 = source_of 2

here_ranges : Ranges here from2
unfolding id_bytes
here_ranges = record { allowed = here_allowed; source = omega arith; priority = omega arith; cos = omega arith }

abbrev alone : ℕ → List ℕ → Sent
alone stream bytes = record { pdu = pdu stream bytes; lost = [] }

abbrev one : Sent
one = alone 7 first_pdu

abbrev another : Sent
another = alone 8 second_pdu

fair-one : FairPDU 96 one
unfolding deciding
fair-one = fair_PDU 96 one refl

fair-another : FairPDU 96 another
unfolding deciding
fair-another = fair_PDU 96 another refl

-- what demand 2 says of one of them: the end delivers it
ends : (e : Endpoint) (s : Sent) → Demand2Of e → FairPDU 96 s → 2 ≡ segment_count 32 (length s.pdu.bytes)
    → HandsBack 96 from2 s.pdu (desk_at e here from2 s (zero_desk here) 2) (says_at e here from2 s (zero_desk here) 1)
ends e s demand fair two = (demand here from2 s (zero_desk here) here-fresh here_ranges fair).last 1 two

-- and demand 3
abbrev sent_one : Sending
sent_one = in_turn here from2 (one ∷ [])

fair_sent : Fair here sent_one
unfolding deciding computing
fair_sent = is_fair_lem here sent_one refl

abbrev its_packets : List (List ℕ)
its_packets = packet_at here from2 one 0 ∷ packet_at here from2 one 1 ∷ []

delivers-one : (e : Endpoint) → Demand3Of e → deliveries_by e (zero_desk here) its_packets ≡ delivery from2 one.pdu ∷ []
unfolding computing put_of
delivers-one e demand = demand here (zero_desk here) sent_one here-fresh fair_sent

-- ---- Refuses or holds

nothing_by : (R : ℕ) (memory : List ℕ) (says : Said) → ((context : ℕ) (flow : Flow) (stream size : ℕ) → says ≡ delivered context flow stream size → ⊥) → delivered_by R memory says ≡ []
nothing_by R memory held h = refl
nothing_by R memory (refused number) h = refl
nothing_by R memory (message context source letter mailbox size) h = refl
nothing_by R memory (delivered context flow stream size) h = absurd (h context flow stream size refl)

nothing : (e : Endpoint) → NeverDelivers e → (d : Desk) (ps : List (List ℕ)) → deliveries_by e d ps ≡ []
nothing e h d [] = refl
nothing e h d (p ∷ ps) = rw (nothing_by (state_on (e d p).desk).setup.room (e d p).desk.stream_memory (e d p).says (h d p)) (nothing e h (e d p).desk ps)

silent : (e : Endpoint) → NeverDelivers e → Demand3Of e → ⊥
silent e h demand =
    let z : ◌≡◌ {A = ℕ} 0 1 = ap length (sym (nothing e h (zero_desk here) its_packets) ∙ delivers-one e demand) in
    omega arith

-- ---- Always the same: the two have different streamIDs

same : (e : Endpoint) (says : Said) → AlwaysTheSame e says → Demand2Of e → ⊥
unfolding segment_count
same e says h demand =
    let r = ends e one demand fair-one refl in
    let r' = ends e another demand fair-another refl in
    let s : says ≡ delivered r.context from2 7 40 = sym (h _ _ _ _ _ _ r.answer) ∙ r.answer in
    let s' : says ≡ delivered r'.context from2 8 40 = sym (h _ _ _ _ _ _ r'.answer) ∙ r'.answer in
    let t : delivered r.context from2 7 40 ≡ delivered r'.context from2 8 40 = sym s ∙ s' in
    let z : ◌≡◌ {A = ℕ} 7 8 = cc in
    omega arith

-- ---- Only moves the count: no byte of the memory is ever 39, the last of the PDU

abbrev Low : List ℕ → Type 0
Low l = (i : ℕ) → get_or l i 0 < 39

low-take : (n : ℕ) (l : List ℕ) → Low l → Low (take n l)
low-take zero l h i = omega arith
low-take (suc n) [] h i = omega arith
low-take (suc n) (x ∷ l) h zero = h 0
low-take (suc n) (x ∷ l) h (suc i) = low-take n l (λ j. h (suc j)) i

low_part : (room : ℕ) (l : List ℕ) (context size : ℕ) → Low l → Low (in_room room l context size)
low_part room l context size h = low-take size (drop (context * room) l) (λ i. rw get_or-drop (h (context * room + i)))

-- the start stores bytes 0 to 31 in a memory of zeros
low-start : Low (after (zero_desk here) (packet_at here from2 one 0)).stream_memory
unfolding computing below
low-start i = below_at 39 (after (zero_desk here) (packet_at here from2 one 0)).stream_memory i (omega arith) refl

module _ (e : Endpoint) (starts_only : StoresOnlyStarts e) where
  abbrev begun : Desk
  begun = desk_at e here from2 one (zero_desk here) 1

  abbrev ended : Desk
  ended = desk_at e here from2 one (zero_desk here) 2

  low-begun : Low begun.stream_memory
  unfolding computing
  low-begun = subst Low (sym (starts_only (zero_desk here) (packet_at here from2 one 0))) low-start

  low-ended : Low ended.stream_memory
  unfolding computing
  low-ended = subst Low (sym (starts_only begun (packet_at here from2 one 1))) low-begun

  not_low : Low first_pdu → ⊥
  not_low h = let last : 39 < 39 = h 39 in omega arith

  count_mover2 : Demand2Of e → ⊥
  unfolding segment_count
  count_mover2 demand =
      let r = ends e one demand fair-one refl in
      not_low (subst Low r.holds (low_part 96 ended.stream_memory r.context 40 low-ended))

  abbrev LowBytes : Delivery → Type 0
  LowBytes x = Low x.pdu.bytes

  low_by : (R : ℕ) (memory : List ℕ) (says : Said) (ds : List Delivery) → Low memory → Each LowBytes ds → Each LowBytes (delivered_by R memory says ++ ds)
  low_by R memory held ds h rest = rest
  low_by R memory (refused number) ds h rest = rest
  low_by R memory (message context source letter mailbox size) ds h rest = rest
  low_by R memory (delivered context flow stream size) ds h rest = (low_part R memory context size h, rest)

  count_mover3 : Demand3Of e → ⊥
  count_mover3 demand =
      let all_low = low_by (state_on begun).setup.room begun.stream_memory (says_at e here from2 one (zero_desk here) 0) _ low-begun
      (low_by (state_on ended).setup.room ended.stream_memory (says_at e here from2 one (zero_desk here) 1) [] low-ended tt) in
      not_low (subst (Each LowBytes) (delivers-one e demand) all_low).0

-- ---- Invents the length

-- a resized answer has the length that it was given
resized-size : (says : Said) (n context : ℕ) (flow : Flow) (stream size : ℕ) → resized says n ≡ delivered context flow stream size → n ≡ size
resized-size (delivered c f s z) n context flow stream size e = cc
resized-size held n context flow stream size e = absurd (let z : ◌≡◌ {A = ℕ} 0 1 = cc in omega arith)
resized-size (message c o l m z) n context flow stream size e = absurd (let z : ◌≡◌ {A = ℕ} 0 1 = cc in omega arith)
resized-size (refused number) n context flow stream size e = absurd (let z : ◌≡◌ {A = ℕ} 0 1 = cc in omega arith)

-- ---- Keeps the context after 11: 96 bytes without the middle, then 40 without the start. Not a joint, yet it would be delivered

abbrev hurt : Sent
hurt = record { pdu = pdu 7 (counting 0 96); lost = 1 ∷ [] }

abbrev tail_only : Sent
tail_only = record { pdu = pdu 8 second_pdu; lost = 0 ∷ [] }

no_joint : Pair here from2 hurt tail_only
unfolding deciding segment_count
no_joint = record {
  ranges = here_ranges;
  first_fair = fair_PDU 96 hurt refl;
  second_fair = fair_PDU 96 tail_only refl;
  first_loses = refl;
  second_loses = refl;
}

keeps : JointOf keeper → ⊥
unfolding computing put_of is_joint
keeps joint =
    let z : ◌≡◌ {A = ℕ} 1 0 = ap length (joint here (zero_desk here) from2 hurt tail_only here-fresh no_joint) in
    omega arith

-- ---- A writer that does nothing: a buffer of zeros is no segment, however long the writer says the packet is

zeros_refused : (says : WriterSaid) (n : ℕ) → is_fair_turn here (between (stands_in says (replicate n 0))) ≡ true
unfolding id_bytes number is_fair_turn is_segment below parsed head_rows verdict
zeros_refused (write_refused number) n = refl
zeros_refused (wrote size) n = go size n
  where
    zeros-below : (size n : ℕ) → below 256 (take size (replicate n 0)) ≡ true
    zeros-below zero n = refl
    zeros-below (suc size) zero = refl
    zeros-below (suc size) (suc n) = zeros-below size n

    go : (size n : ℕ) → is_fair_turn here (between (take size (replicate n 0))) ≡ true
    go zero n = refl
    go (suc size) zero = refl
    go (suc size) (suc n) = rw (zeros-below size n) (by_length (ltb (suc (length {A = ℕ} (take size (replicate n 0)))) (header 2)))
      where
        -- row 1, or row 2: tt is not 01
        by_length : (short : Bool) → (not (is_segment (parsed_by 2 (0 ∷ take size (replicate n 0)) (cond short (refuse 1 all) (refuse 2 all)))) && true) ≡ true
        by_length true = refl
        by_length false = refl

-- one packet of 32 bytes
abbrev single : Sent
single = alone 7 (counting 0 32)

fair-single : FairPDU 96 single
unfolding deciding
fair-single = fair_PDU 96 single refl

-- such a packet, and nothing else
abbrev sent_zeros : WriterSaid → ℕ → Sending
sent_zeros says n = record { flows = []; turns = between (stands_in says (replicate n 0)) ∷ [] }

fair-zeros : (says : WriterSaid) (n : ℕ) → Fair here (sent_zeros says n)
unfolding is_fair all_of
fair-zeros says n = is_fair_lem here (sent_zeros says n) (rw (zeros_refused says n))

-- buffers of zeros, each as long as its packet
abbrev zeros : ℕ → List ℕ
zeros k = replicate (length (packet_at here from2 single k)) 0

idle : (w : Writer) → Idle w → Demand2OfWriter w → ⊥
unfolding segment_count
idle w does_nothing demand =
    let x : Wrote = w (zeros 0) (heading_for here from2 single) 32 single.pdu.bytes 0 in
    let n : ℕ = length (packet_at here from2 single 0) in
    let wanted : deliveries (zero_desk here) (stands_in x.says x.out ∷ []) ≡ delivery from2 single.pdu ∷ [] =
    demand here from2 single (zero_desk here) zeros here-fresh here_ranges fair-single (λ k. omega (arith, length-replicate {A = ℕ} (length (packet_at here from2 single k)) 0)) in
    let as_it_was : x.out ≡ zeros 0 = does_nothing (zeros 0) (heading_for here from2 single) 32 single.pdu.bytes 0 in
    let gets : deliveries (zero_desk here) (stands_in x.says (zeros 0) ∷ []) ≡ [] = ours_meets.demand3 here (zero_desk here) (sent_zeros x.says n) here-fresh (fair-zeros x.says n) in
    let z : ◌≡◌ {A = ℕ} 0 1 = ap length (sym gets ∙ (ap (λ (out : List ℕ). deliveries (zero_desk here) (stands_in x.says out ∷ [])) (sym as_it_was) ∙ wanted)) in
    omega arith

pub impostors_break : ImpostorsBreak
impostors_break = record {
  honest = ours_meets;
  honest_writer = our_writer_meets;
  silent = silent;
  same = same;
  count_mover2 = count_mover2;
  count_mover3 = count_mover3;
  count_mover_lem = λ d p. refl;
  invents = λ size setup flow s d k f ranges fair last wrong demand.
      let h = (demand setup flow s d f ranges fair).last k last in
      wrong (resized-size (read (desk_at (inventor size) setup flow s d k) (packet_at setup flow s k)).says _ h.context flow s.pdu.stream (length s.pdu.bytes) h.answer);
  keeps = keeps;
  idle = idle;
}

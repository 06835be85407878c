-- DEMAND 3 AT ITS FULL: sixteen PDUs open at once, a lost start, a lost middle, and between them a message, packets of other types, for another
-- device, and malformed ones. MTU 32, R 96, device 1, IDs of either width.
use Rattle.std.specs.Prelude.{ℕ, ◌-◌, ◌≡◌, List, [], ◌∷◌, ◌++◌, map, replicate}
use Rattle.lists.specs.Each.{Each}
use Rattle.wire.specs.declared.Setup.{Setup}
use Rattle.contexts.specs.State.{fixed, free_stream, stream_contexts}
use Rattle.reading.specs.Desk.{Desk, state_on}
use Rattle.flows.specs.OneFlow.{pdu}
use Rattle.flows.specs.Deliveries.{delivery, desk_after, deliveries}
use Rattle.flows.specs.Fresh.{zero_desk}
use Rattle.flows.specs.Widths.{both_widths, at_width}
use Rattle.sending.specs.Sending.{Sent, losses, FlowSent, Turn, next, between, Sending, packets, whole, Fair}
use Rattle.sending.specs.OfSendings.{first_turns}
use Rattle.sending.specs.Mixture.{letter_one, reserved_ssize}
use Rattle.paper_examples.specs.Example.{counting}
use Rattle.paper_examples.specs.Table.{source_of}

abbrev pub sixteen_setup : (narrow : ℕ) → Setup
sixteen_setup narrow = fixed 1 32 96 narrow

-- 40 bytes of n on stream n, a start and an end; also without its start
abbrev pub forty : ℕ → Sent
forty n = record { pdu = pdu n (replicate 40 n); lost = [] }

abbrev pub startless : Sent
startless = record { pdu = pdu 100 (replicate 40 100); lost = 0 ∷ [] }

-- 96 bytes, which fill a room: a start, a continuation that is lost, and an end
abbrev pub middleless : Sent
middleless = record { pdu = pdu 2 (replicate 96 2); lost = 1 ∷ [] }

abbrev pub sends_forty : ℕ → FlowSent
sends_forty n = record { flow = source_of n; sent = forty n ∷ [] }

-- the flows of these sources put a packet on, in this order
abbrev pub each_puts : List ℕ → List Turn
each_puts sources = map (λ (n : ℕ). next (source_of n)) sources

-- packets between: a message; a reserved ssize; type 5; a start for device 2; a start on flow 3 with xh=1; one of flow 4 that is cut short; no
-- byte at all; and a start on flow 4 with IDs of the other width
abbrev pub others : (narrow : ℕ) → List (List ℕ)
others narrow =
    map (at_width narrow)
    (letter_one
    ∷ reserved_ssize
    ∷ (0x15 ∷ 0x00 ∷ 0x01 ∷ 0x00 ∷ 0x03 ∷ 0x05 ∷ 0x80 ∷ 0x00 ∷ 0x07 ∷ replicate 32 9)
    ∷ (0x19 ∷ 0x00 ∷ 0x02 ∷ 0x00 ∷ 0x03 ∷ 0x05 ∷ 0x80 ∷ 0x00 ∷ 0x07 ∷ replicate 32 9)
    ∷ (0x19 ∷ 0x00 ∷ 0x01 ∷ 0x00 ∷ 0x03 ∷ 0x05 ∷ 0x84 ∷ 0x00 ∷ 0x07 ∷ replicate 32 9)
    ∷ (0x19 ∷ 0x00 ∷ 0x01 ∷ 0x00 ∷ 0x04 ∷ 0x05 ∷ 0x80 ∷ 0x00 ∷ [])
    ∷ [])
    ++ ([]
    ∷ at_width (1 - narrow) (0x19 ∷ 0x00 ∷ 0x01 ∷ 0x00 ∷ 0x04 ∷ 0x05 ∷ 0x80 ∷ 0x00 ∷ 0x07 ∷ replicate 32 9)
    ∷ [])

-- Flow 1: a PDU without its start, of which the end comes; then sixteen starts; the others; and the rest of each flow, the last first. Flow 2 loses
-- its middle, and its end comes last
abbrev pub sixteen_open : (narrow : ℕ) → Sending
sixteen_open narrow = record {
  flows =
      record { flow = source_of 1; sent = startless ∷ forty 1 ∷ [] }
      ∷ record { flow = source_of 2; sent = middleless ∷ [] }
      ∷ map sends_forty (counting 3 14);
  turns =
      each_puts (1 ∷ 1 ∷ [])
      ++ (each_puts (counting 1 16)
      ++ (map between (others narrow)
      ++ each_puts (16 ∷ 15 ∷ 14 ∷ 13 ∷ 12 ∷ 11 ∷ 10 ∷ 9 ∷ 8 ∷ 7 ∷ 6 ∷ 5 ∷ 4 ∷ 3 ∷ 2 ∷ 1 ∷ 2 ∷ [])));
}

pub record AllSixteen (narrow : ℕ) : Type 0 where
  pub fair : Fair (sixteen_setup narrow) (sixteen_open narrow)
  pub start_lost_lem : losses (sixteen_setup narrow).mtu startless ≡ 1
  pub middle_lost : losses (sixteen_setup narrow).mtu middleless ≡ 1
  -- after the starts no stream context is free: sixteen PDUs are open
  pub all_open : free_stream (state_on (desk_after (zero_desk (sixteen_setup narrow)) (packets (sixteen_setup narrow) (first_turns 18 (sixteen_open narrow))))) ≡ stream_contexts
  -- and these are whole, in the order of their last packets: all but the two that lost something
  pub complete : whole (sixteen_setup narrow) (sixteen_open narrow)
      ≡ map (λ (n : ℕ). delivery (source_of n) (pdu n (replicate 40 n))) (16 ∷ 15 ∷ 14 ∷ 13 ∷ 12 ∷ 11 ∷ 10 ∷ 9 ∷ 8 ∷ 7 ∷ 6 ∷ 5 ∷ 4 ∷ 3 ∷ 1 ∷ [])

abbrev pub SixteenAtOnce : Type 0
SixteenAtOnce = Each AllSixteen both_widths

-- the endpoint, packet by packet from a fresh desk, delivers them: by computation, with no law between. With IDs of 16 bits; MixtureDelivered is of
-- both widths
abbrev pub SixteenDelivered : Type 0
SixteenDelivered = deliveries (zero_desk (sixteen_setup 0)) (packets (sixteen_setup 0) (sixteen_open 0)) ≡ whole (sixteen_setup 0) (sixteen_open 0)

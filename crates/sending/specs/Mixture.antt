-- The premises can be met: three flows, two of which differ in priority alone, a loss, and messages between. MTU 32, R 64, device 1, IDs of either
-- width.
use Rattle.std.specs.Prelude.{ℕ, ◌≡◌, List, [], ◌∷◌, map, replicate}
use Rattle.lists.specs.Each.{Each}
use Rattle.wire.specs.declared.Flow.{Flow}
use Rattle.flows.specs.OneFlow.{pdu}
use Rattle.wire.specs.declared.Setup.{Setup}
use Rattle.contexts.specs.State.{fixed}
use Rattle.flows.specs.Deliveries.{delivery, deliveries}
use Rattle.flows.specs.Fresh.{zero_desk}
use Rattle.flows.specs.Widths.{both_widths, at_width}
use Rattle.sending.specs.Sending.{Sent, next, between, Sending, losses, packets, whole, Fair}

abbrev pub small_setup : (narrow : ℕ) → Setup
small_setup narrow = fixed 1 32 64 narrow

-- a board's ordinary flow and its urgent one
abbrev pub five : Flow
five = record { source = 5; priority = 0; cos = 1 }

abbrev pub urgent_five : Flow
urgent_five = record { source = 5; priority = 3; cos = 1 }

abbrev pub six : Flow
six = record { source = 6; priority = 1; cos = 2 }

-- 40 bytes of 7 on stream 1, a start and an end, of which the end is lost
abbrev pub lossy : Sent
lossy = record { pdu = pdu 1 (replicate 40 7); lost = 1 ∷ [] }

-- 40 bytes of 9 on stream 2
abbrev pub sound : Sent
sound = record { pdu = pdu 2 (replicate 40 9); lost = [] }

-- 33 bytes of 3 on stream 3: the end has one byte of data, and a pad
abbrev pub odd : Sent
odd = record { pdu = pdu 3 (replicate 33 3); lost = [] }

-- 36 bytes of 9 on stream 2: its start is the sound one's but for the priority
abbrev pub urgent : Sent
urgent = record { pdu = pdu 2 (replicate 36 9); lost = [] }

-- the message of document 01's log; and a packet of type 11 with a reserved ssize, which the endpoint refuses
abbrev pub letter_one : List ℕ
letter_one = 0x1B ∷ 0x00 ∷ 0x01 ∷ 0x00 ∷ 0x02 ∷ 0x09 ∷ 0x60 ∷ 0x11 ∷ 0x12 ∷ 0x13 ∷ 0x14 ∷ 0x15 ∷ 0x16 ∷ 0x17 ∷ 0x18 ∷ []

abbrev pub reserved_ssize : List ℕ
reserved_ssize = 0x1B ∷ 0x00 ∷ 0x01 ∷ 0x00 ∷ 0x02 ∷ 0x00 ∷ 0x60 ∷ []

abbrev pub mixture : (narrow : ℕ) → Sending
mixture narrow = record {
  flows =
      record { flow = five; sent = lossy ∷ sound ∷ [] }
      ∷ record { flow = urgent_five; sent = urgent ∷ [] }
      ∷ record { flow = six; sent = odd ∷ [] }
      ∷ [];
  turns =
      next five ∷ next six ∷ between (at_width narrow letter_one) ∷ next five ∷ next five ∷ next urgent_five ∷ between (at_width narrow reserved_ssize)
      ∷ next six ∷ next urgent_five ∷ next five ∷ next six ∷ [];
}

-- it is fair; a packet of it is lost; these are left, to the byte; and these are whole, in the order of their last packets
pub record FairMixture (narrow : ℕ) : Type 0 where
  pub fair : Fair (small_setup narrow) (mixture narrow)
  pub loses : losses (small_setup narrow).mtu lossy ≡ 1
  pub left : packets (small_setup narrow) (mixture narrow)
      ≡ map (at_width narrow)
      ((0x19 ∷ 0x00 ∷ 0x01 ∷ 0x00 ∷ 0x05 ∷ 0x01 ∷ 0x80 ∷ 0x00 ∷ 0x01 ∷ replicate 32 7)
      ∷ (0x59 ∷ 0x00 ∷ 0x01 ∷ 0x00 ∷ 0x06 ∷ 0x02 ∷ 0x80 ∷ 0x00 ∷ 0x03 ∷ replicate 32 3)
      ∷ letter_one
      ∷ (0x19 ∷ 0x00 ∷ 0x01 ∷ 0x00 ∷ 0x05 ∷ 0x01 ∷ 0x80 ∷ 0x00 ∷ 0x02 ∷ replicate 32 9)
      ∷ (0xD9 ∷ 0x00 ∷ 0x01 ∷ 0x00 ∷ 0x05 ∷ 0x01 ∷ 0x80 ∷ 0x00 ∷ 0x02 ∷ replicate 32 9)
      ∷ reserved_ssize
      ∷ (0x59 ∷ 0x00 ∷ 0x01 ∷ 0x00 ∷ 0x06 ∷ 0x02 ∷ 0x43 ∷ 0x00 ∷ 0x21 ∷ 0x03 ∷ 0x00 ∷ [])
      ∷ (0xD9 ∷ 0x00 ∷ 0x01 ∷ 0x00 ∷ 0x05 ∷ 0x01 ∷ 0x40 ∷ 0x00 ∷ 0x24 ∷ replicate 4 9)
      ∷ (0x19 ∷ 0x00 ∷ 0x01 ∷ 0x00 ∷ 0x05 ∷ 0x01 ∷ 0x40 ∷ 0x00 ∷ 0x28 ∷ replicate 8 9)
      ∷ [])
  pub complete : whole (small_setup narrow) (mixture narrow)
      ≡ delivery six (pdu 3 (replicate 33 3)) ∷ delivery urgent_five (pdu 2 (replicate 36 9)) ∷ delivery five (pdu 2 (replicate 40 9)) ∷ []

abbrev pub MixtureIsFair : Type 0
MixtureIsFair = Each FairMixture both_widths

-- and the endpoint, packet by packet at a desk that was just set up, delivers them
abbrev pub MixtureDelivered : Type 0
MixtureDelivered =
    Each (λ (narrow : ℕ). deliveries (zero_desk (small_setup narrow)) (packets (small_setup narrow) (mixture narrow)) ≡ whole (small_setup narrow) (mixture narrow)) both_widths

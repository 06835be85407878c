-- The starred examples of document 01, in its order and with its numbers ('Examples to hold it to'). MTU 32. Behind them a few of the same with IDs of
-- 8 bits (document 02, M-112). Then a table for document 02, M-103: its example, and some more.
use Rattle.std.specs.Prelude.{ℕ, zero, suc, List, [], ◌∷◌, ◌++◌, take, drop, replicate}
use Rattle.answers.specs.Answers.{held, delivered, message, refused}
use Rattle.wire.specs.declared.Flow.{Flow}
use Rattle.cutting.specs.declared.Heading.{Heading}
use Rattle.cutting.specs.Cutting.{packet_of}
use Rattle.lists.specs.Each.{Each}
use Rattle.contexts.specs.State.{closed_stream, open_stream}
use Rattle.flows.specs.Widths.{both_widths, narrowed}
use Rattle.paper_examples.specs.Example.{counting, cut, Fact, has_bytes, has_byte, length_field, delivers, delivers_not, response, context_holds, lost, gets, gets_dropped, Example, example, narrow_example, Holds}

-- the flow of a source: priority 0, cos 5
abbrev pub source_of : ℕ → Flow
source_of source = record { source = source; priority = 0; cos = 5 }

-- the same at priority 1
abbrev pub urgent_of : ℕ → Flow
urgent_of source = record { source = source; priority = 1; cos = 5 }

-- to device 1 on a flow, with IDs of that width
abbrev pub heading_on : (narrow : ℕ) → Flow → (stream : ℕ) → Heading
heading_on narrow flow stream = record { destination = 1; source = flow.source; cos = flow.cos; stream = stream; priority = flow.priority; narrow = narrow }

-- on the flow of a source
abbrev pub heading_at : (narrow source stream : ℕ) → Heading
heading_at narrow source stream = heading_on narrow (source_of source) stream

-- of 16 bits
abbrev pub heading : (source stream : ℕ) → Heading
heading source stream = heading_at 0 source stream

-- the packets of a PDU of L bytes 0, 1, 2, .. with streamID 7, from source 2
abbrev pub cut_pdu : ℕ → List (List ℕ)
cut_pdu L = cut (heading 2 7) 32 (counting 0 L)

-- with IDs of 8 bits
abbrev pub cut_narrow : ℕ → List (List ℕ)
cut_narrow L = cut (heading_at 1 2 7) 32 (counting 0 L)

-- two PDUs of 40 bytes on that flow, whose bytes and streamIDs differ
abbrev pub first_pdu : List ℕ
first_pdu = counting 0 40

abbrev pub second_pdu : List ℕ
second_pdu = counting 100 40

abbrev pub two_pdus : List (List ℕ)
two_pdus = cut (heading 2 7) 32 first_pdu ++ cut (heading 2 8) 32 second_pdu

-- the joint: the first's first 32 bytes and the second's last 8
abbrev pub joint : List ℕ
joint = take 32 first_pdu ++ drop 32 second_pdu

-- the start and the end of a PDU of 40 bytes on the flow of a source
abbrev pub start : (source : ℕ) → List ℕ
start source = packet_of (heading source 7) 32 first_pdu 0

abbrev pub end : (source : ℕ) → List ℕ
end source = packet_of (heading source 7) 32 first_pdu 1

-- starts on n flows: sources `from`, `from` + 1, ..
abbrev pub starts : (from n : ℕ) → List (List ℕ)
starts from zero = []
starts from (suc n) = start from ∷ starts (suc from) n

-- a message of two segments, ssize 64, from source 2: letter 1, mbox 2
abbrev pub segment0 : List ℕ
segment0 = 0x1B ∷ 0x00 ∷ 0x01 ∷ 0x00 ∷ 0x02 ∷ 0x1C ∷ 0x60 ∷ counting 0 64

-- its last, of 8 bytes
abbrev pub segment1 : List ℕ
segment1 = 0x1B ∷ 0x00 ∷ 0x01 ∷ 0x00 ∷ 0x02 ∷ 0x1C ∷ 0x61 ∷ counting 64 8

-- the response to each, with IDs of 16 bits: its byte 5 has the status, byte 6 is the request's
abbrev pub responds_done : (byte6 : ℕ) → Fact
responds_done b = response (0x5D ∷ 0x00 ∷ 0x02 ∷ 0x00 ∷ 0x01 ∷ 0x10 ∷ b ∷ [])

abbrev pub responds_error : (byte6 : ℕ) → Fact
responds_error b = response (0x5D ∷ 0x00 ∷ 0x02 ∷ 0x00 ∷ 0x01 ∷ 0x17 ∷ b ∷ [])

-- A row: the number, the packets that are sent, and for each what it gets. `delivered` has context, flow, streamID, length; `message` has
-- context, source, letter, mailbox, length.
abbrev pub examples : List Example
examples =
    -- L=32: one packet of 41 bytes.
    example 1 (cut_pdu 32) (gets (delivered 0 (source_of 2) 7 32) (has_bytes 41 ∷ []) ∷ [])
    -- L=33: 41 bytes (byte 6 is 80), then 11 (byte 6 is 43, length 0021).
    ∷ example 2 (cut_pdu 33) (gets held (has_bytes 41 ∷ has_byte 6 0x80 ∷ []) ∷ gets (delivered 0 (source_of 2) 7 33) (has_bytes 11 ∷ has_byte 6 0x43 ∷ length_field 0x0021 ∷ []) ∷ [])
    -- L=64: the end has 41 bytes, byte 6 is 40, length 0040.
    ∷ example 3 (cut_pdu 64) (gets held [] ∷ gets (delivered 0 (source_of 2) 7 64) (has_bytes 41 ∷ has_byte 6 0x40 ∷ length_field 0x0040 ∷ []) ∷ [])
    -- L=65: the continuation has 39 bytes, byte 6 is 00.
    ∷ example 4 (cut_pdu 65) (gets held [] ∷ gets held (has_bytes 39 ∷ has_byte 6 0x00 ∷ []) ∷ gets (delivered 0 (source_of 2) 7 65) [] ∷ [])
    -- L=96, middle lost: the end gets 11, dropped.
    ∷ example 6 (cut_pdu 96) (gets held [] ∷ lost ∷ gets_dropped (refused 11) [] ∷ [])
    -- L=96, start lost: 8, then 8.
    ∷ example 7 (cut_pdu 96) (lost ∷ gets (refused 8) [] ∷ gets (refused 8) [] ∷ [])
    -- Two 40-byte PDUs, first end lost: second start is held, dropped; second PDU delivered.
    ∷ example 8 two_pdus (gets held [] ∷ lost ∷ gets_dropped held [] ∷ gets (delivered 0 (source_of 2) 8 40) (delivers second_pdu ∷ []) ∷ [])
    -- Two 40-byte PDUs on one flow, first end and second start lost: a 40-byte PDU that nobody sent is delivered. This is the joint.
    ∷ example 9 two_pdus (gets held [] ∷ lost ∷ lost ∷ gets (delivered 0 (source_of 2) 7 40) (delivers joint ∷ delivers_not first_pdu ∷ delivers_not second_pdu ∷ []) ∷ [])
    -- Seventeen starts on seventeen flows: the last gets 10. After one delivery an eighteenth is held.
    ∷ example 10 (starts 1 17 ++ (end 4 ∷ start 18 ∷ []))
    (replicate 16 (gets held []) ++ (gets (refused 10) [] ∷ gets (delivered 3 (source_of 4) 7 40) (delivers first_pdu ∷ []) ∷ gets held [] ∷ []))
    -- ssize 64, two segments, segment 1 with 8 bytes first: then segment 0 delivers 72 bytes.
    ∷ example 11 (segment1 ∷ segment0 ∷ []) (gets held (responds_done 0x61 ∷ []) ∷ gets (message 0 2 1 2 72) (delivers (counting 0 72) ∷ responds_done 0x60 ∷ []) ∷ [])
    -- A segment twice while open: 24, ERROR.
    ∷ example 12 (segment1 ∷ segment1 ∷ []) (gets held (responds_done 0x61 ∷ []) ∷ gets (refused 24) (responds_error 0x61 ∷ []) ∷ [])
    -- With IDs of 8 bits. L=33: 39 bytes (byte 4 is 80), then 9 (byte 4 is 43, length 0021).
    ∷ narrow_example 2 (cut_narrow 33) (gets held (has_bytes 39 ∷ has_byte 4 0x80 ∷ []) ∷ gets (delivered 0 (source_of 2) 7 33) (has_bytes 9 ∷ has_byte 4 0x43 ∷ length_field 0x0021 ∷ []) ∷ [])
    -- The message of two segments: its responses have 5 bytes.
    ∷ narrow_example 11 (narrowed segment1 ∷ narrowed segment0 ∷ [])
    (gets held (response (0x4D ∷ 0x02 ∷ 0x01 ∷ 0x10 ∷ 0x61 ∷ []) ∷ [])
    ∷ gets (message 0 2 1 2 72) (delivers (counting 0 72) ∷ response (0x4D ∷ 0x02 ∷ 0x01 ∷ 0x10 ∷ 0x60 ∷ []) ∷ [])
    ∷ [])
    -- A packet of the other width gets 2, at either endpoint.
    ∷ narrow_example 1 (cut_pdu 32) (gets (refused 2) [] ∷ [])
    ∷ example 1 (cut_narrow 32) (gets (refused 2) [] ∷ [])
    ∷ []

-- every example comes out as it says
abbrev pub ExamplesHold : Type 0
ExamplesHold = Each Holds examples

-- ---- Document 02

-- M-103: the first PDU at priority 0, the second at 1, else as in examples 8 and 9
abbrev pub at_two_priorities : (narrow : ℕ) → List (List ℕ)
at_two_priorities narrow = cut (heading_on narrow (source_of 2) 7) 32 first_pdu ++ cut (heading_on narrow (urgent_of 2) 8) 32 second_pdu

-- the first's start and end with the second's between, which has overtaken
abbrev pub overtaking : (narrow : ℕ) → List (List ℕ)
overtaking narrow =
    packet_of (heading_on narrow (source_of 2) 7) 32 first_pdu 0
    ∷ (cut (heading_on narrow (urgent_of 2) 8) 32 second_pdu
    ++ (packet_of (heading_on narrow (source_of 2) 7) 32 first_pdu 1 ∷ []))

-- a start at priority 0, an end of the same PDU at priority 1, and one at priority 0
abbrev pub other_end : (narrow : ℕ) → List (List ℕ)
other_end narrow =
    packet_of (heading_on narrow (source_of 2) 7) 32 first_pdu 0
    ∷ packet_of (heading_on narrow (urgent_of 2) 7) 32 first_pdu 1
    ∷ packet_of (heading_on narrow (source_of 2) 7) 32 first_pdu 1
    ∷ []

-- the first's start at priority 0 and its end at 1, then the second's start at 1 and its end at 0
abbrev pub crossed : (narrow : ℕ) → List (List ℕ)
crossed narrow =
    packet_of (heading_on narrow (source_of 2) 7) 32 first_pdu 0
    ∷ packet_of (heading_on narrow (urgent_of 2) 7) 32 first_pdu 1
    ∷ packet_of (heading_on narrow (urgent_of 2) 8) 32 second_pdu 0
    ∷ packet_of (heading_on narrow (source_of 2) 8) 32 second_pdu 1
    ∷ []

-- what the first PDU's context holds after its start
abbrev pub first_started : Fact
first_started = context_holds 0 (open_stream (source_of 2) 7 32)

-- at a width. The number is that of the example of document 01 that it is made from
abbrev pub examples_of_02_at : (narrow : ℕ) → List Example
examples_of_02_at narrow =
    -- Example 8 with the second PDU at another priority opens a second context and drops nothing. Context 0 still holds the first.
    record {
      number = 8;
      narrow = narrow;
      sent = at_two_priorities narrow;
      lines =
          gets held (first_started ∷ [])
          ∷ lost
          ∷ gets held (first_started ∷ context_holds 1 (open_stream (urgent_of 2) 8 32) ∷ [])
          ∷ gets (delivered 1 (urgent_of 2) 8 40) (delivers second_pdu ∷ first_started ∷ context_holds 1 closed_stream ∷ [])
          ∷ [];
    }
    -- Nothing is lost, and the second overtakes: both are delivered.
    ∷ record {
      number = 8;
      narrow = narrow;
      sent = overtaking narrow;
      lines =
          gets held []
          ∷ gets held []
          ∷ gets (delivered 1 (urgent_of 2) 8 40) (delivers second_pdu ∷ [])
          ∷ gets (delivered 0 (source_of 2) 7 40) (delivers first_pdu ∷ [])
          ∷ [];
    }
    -- Example 9 with the second PDU at another priority is no joint: its end finds nothing open.
    ∷ record { number = 9; narrow = narrow; sent = at_two_priorities narrow; lines = gets held [] ∷ lost ∷ lost ∷ gets (refused 8) (first_started ∷ []) ∷ [] }
    -- A start and an end at different priorities: held, then 8, and the PDU is left open until its own end comes.
    ∷ record {
      number = 8;
      narrow = narrow;
      sent = other_end narrow;
      lines = gets held [] ∷ gets (refused 8) (first_started ∷ []) ∷ gets (delivered 0 (source_of 2) 7 40) (delivers first_pdu ∷ []) ∷ [];
    }
    -- Two PDUs, each at two priorities, on which the promises say nothing: no packet is lost, and a PDU that nobody sent is delivered.
    ∷ record {
      number = 9;
      narrow = narrow;
      sent = crossed narrow;
      lines = gets held [] ∷ gets (refused 8) [] ∷ gets held [] ∷ gets (delivered 0 (source_of 2) 7 40) (delivers joint ∷ delivers_not first_pdu ∷ delivers_not second_pdu ∷ []) ∷ [];
    }
    ∷ []

-- every one comes out as it says, at both widths
abbrev pub ExamplesOf02 : Type 0
ExamplesOf02 = Each (λ (narrow : ℕ). Each Holds (examples_of_02_at narrow)) both_widths

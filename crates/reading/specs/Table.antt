-- The refusal table of document 01, in its order: rows of what is lent, of the packet's head, of type 9, of type 11. Each part stands beside its
-- tests, with its numbers, 'given exactly if' and what it leaves.
use Rattle.std.specs.Prelude.{ℕ, ◌*◌, List, [], ◌∷◌, ◌++◌, Bool, not, ◌||◌, ◌&&◌, length, eqb, ltb}
use Rattle.tables.specs.Refusals.{Row, row, all, number_of, verdict, given}
use Rattle.wire.specs.Segment.{Segment}
use Rattle.wire.specs.declared.MessageSegment.{MessageSegment}
use Rattle.wire.specs.Type9.{segment_of}
use Rattle.wire.specs.Type11.{message_of}
use Rattle.wire.specs.Head.{is9, is11, head_rows}
use Rattle.responses.specs.Type13.{response_size}
use Rattle.contexts.specs.State.{State, ids_in, stream_contexts}
use Rattle.contexts.specs.Words.{state_words}
use Rattle.refusal19.specs.Refusal19.{named_by_19}
use Rattle.message_rooms.specs.Placing.{message_memory_bytes}
use Rattle.streams.specs.Rows.{stream_rows}
use Rattle.messages.specs.Rows.{message_rows}
use Rattle.reading.specs.Desk.{Desk, state_on}

-- what the caller lends for a packet: the desk and the packet
pub record Lent : Type 0 where
  pub desk : Desk
  pub packet : List ℕ

abbrev pub lent : Desk → List ℕ → Lent
lent desk packet = record { desk = desk; packet = packet }

abbrev pub state_in : Lent → State
state_in x = state_on x.desk

abbrev pub segment_in : Lent → Segment
segment_in x = segment_of (ids_in (state_in x)) x.packet

abbrev pub message_segment_in : Lent → MessageSegment
message_segment_in x = message_of (ids_in (state_in x)) x.packet

-- so many words are a state; a buffer of another length is a lent memory of the wrong size
abbrev pub is_state_words : Desk → Bool
is_state_words d = eqb (length d.words) state_words

-- 12: a stream memory that is not 16 R bytes long, a message memory that is not 32,768, or a response buffer under 7; with IDs
-- of one byte, under 5
unfoldable pub wrong_sizes : Desk → Bool
wrong_sizes d =
    not (eqb (length d.stream_memory) (stream_contexts * (state_on d).setup.room))
    || not (eqb (length d.message_memory) message_memory_bytes)
    || ltb (length d.response) (response_size (ids_in (state_on d)))

-- the rows of what is lent; with IDs of one byte 7 is 5
unfoldable pub lent_rows : Desk → List Row
lent_rows d =
    -- a state that 19 names
    row 19 (is_state_words d && named_by_19 (state_on d)) all
    -- a lent memory of the wrong size, or response buffer under 7
    ∷ row 12 (not (is_state_words d) || wrong_sizes d) all
    ∷ []

-- what everything lent is refused with, before a packet is looked at: 19 or 12; 0: with nothing
unfoldable pub lent_refusal : Desk → ℕ
lent_refusal d = number_of (verdict (lent_rows d))

unfoldable pub table : Lent → List Row
table x =
    -- 19, 12
    lent_rows x.desk
    -- 1 under 5 bytes, 2, 3, 4, 1 under 7, 5, 1 under 9; with IDs of one byte, 2 less each (wire/specs/Head.antt)
    ++ (head_rows (state_in x).setup.device (ids_in (state_in x)) x.packet
    -- type 9: 6 to 11 (streams/specs/Rows.antt)
    ++ (given (is9 x.packet) (stream_rows (state_in x) (segment_in x))
    -- type 11: 20 to 25 (messages/specs/Rows.antt)
    ++ given (is11 x.packet) (message_rows (state_in x) (message_segment_in x))))

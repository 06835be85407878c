-- What reading one packet answers, and what it leaves in the state and in every lent byte.
use Rattle.std.specs.Prelude.{ℕ, ◌≡◌, List, [], Bool, false, cond}
use Rattle.answers.specs.Answers.{Said, said, refused}
use Rattle.refusals.specs.declared.Refusal.{Refusal}
use Rattle.answers.specs.declared.Reading.{Reading}
use Rattle.tables.specs.Refusals.{Leaves, all, flow_closed, all_error, all_retry, Verdict, verdict, by_verdict}
use Rattle.wire.specs.Head.{is9}
use Rattle.responses.specs.Type13.{response_size, ERROR, RETRY, answered}
use Rattle.contexts.specs.State.{ids_in}
use Rattle.contexts.specs.Words.{words_of}
use Rattle.stream_rooms.specs.Placing as stream_room
use Rattle.streams.specs.Joining as stream
use Rattle.message_rooms.specs.Placing.{MessageJoined}
use Rattle.messages.specs.Joining.{message_accepted}
use Rattle.reading.specs.Desk.{Desk, with_streams, with_messages, with_response}
use Rattle.reading.specs.Table.{Lent, state_in, segment_in, message_segment_in, table}

-- the answer, whether this packet closed an open stream context undelivered, how many bytes of response were written, and everything lent
-- as it is left
pub record Settled : Type 0 where
  pub says : Said
  pub dropped : Bool
  pub replied : ℕ
  pub desk : Desk

abbrev pub settled : Said → Bool → ℕ → Desk → Settled
settled says dropped replied desk = record { says = says; dropped = dropped; replied = replied; desk = desk }

-- all of that, the response buffer aside
abbrev pub but_response : Settled → Settled
but_response x = settled x.says x.dropped x.replied (with_response x.desk [])

-- what a type 9 packet leaves; message memory and response stay
abbrev pub of_stream : Lent → stream_room.Joined → Settled
of_stream x j = settled j.says j.dropped 0 (with_streams x.desk (words_of j.state) j.memory)

-- what an accepted type 11 packet leaves; the stream memory stays
abbrev pub of_message : Lent → MessageJoined → Settled
of_message x j = settled j.says false (response_size (ids_in (state_in x))) (with_messages x.desk (words_of j.state) j.memory j.response)

-- the desk with a response of that status
abbrev pub responded : Lent → ℕ → Desk
responded x status = with_response x.desk (answered (ids_in (state_in x)) x.desk.response x.packet status)

-- the table's last column
abbrev pub refusing : Lent → ℕ → Leaves → Settled
refusing x number all = settled (refused number) false 0 x.desk
refusing x number flow_closed = of_stream x (stream.refused_closing (state_in x) x.desk.stream_memory (segment_in x) number)
refusing x number all_error = settled (refused number) false (response_size (ids_in (state_in x))) (responded x ERROR)
refusing x number all_retry = settled (refused number) false (response_size (ids_in (state_in x))) (responded x RETRY)

-- an accepted packet: of type 9, else of type 11, since row 4 has passed
abbrev pub accepting : Lent → Settled
accepting x =
    cond (is9 x.packet)
    (of_stream x (stream.accepted (state_in x) x.desk.stream_memory x.packet (segment_in x)))
    (of_message x (message_accepted (state_in x) x.desk.message_memory x.desk.response x.packet (message_segment_in x)))

abbrev pub outcome : Lent → Verdict → Settled
outcome x = by_verdict (refusing x) (accepting x)

-- the first row that holds decides
unfoldable pub reading : Lent → Settled
reading x = outcome x (verdict (table x))

-- the promise of `read`: the answer, and the desk as it is left
abbrev pub ReadPromise : Lent → Reading Refusal → Desk → Type 0
ReadPromise x r after = settled (said r.answer) r.dropped r.response after ≡ reading x

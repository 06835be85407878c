-- THE PAGE OF PROMISES. What the association asked to have shown, in one record: a line for each promise; the `use` lines say in which file it stands.
-- That they hold is one theorem, whose fields are citations (proofs/Promises.antt). The promises of the C library are a page of their own:
-- c_promises/specs/OfCalls.antt. Those of the log program stand in log_pieces/specs/Printing.antt, log_run/specs/{Running,Once}.antt,
-- log_reader/specs/Once.antt and log_records/specs/Written.antt.
--
-- How to read what these files say. `A → B`: if A, then B; `(x : A) → B`: B for every x. `a ≡ b`: a and b are the same, in every part.
-- `A × B`: both; `(x : A) × B`: there is an x of which B holds. `A ↔ B`: exactly if. `A → ⊥`: not A.
-- `x ∷ xs`: the list that begins with x and goes on with xs; `[]`: the empty one; `xs ++ ys`: the one behind the other.
-- `cond t a b`: a where the test t holds, else b. `x.field`: that field of x; `record { .. }`: something of which each field is shown.
-- `RefT`, `now`: a part of a caller's memory, and the bytes that it holds at that moment.
use Rattle.sending.specs.Segment.{SegmentsReadBack}
use Rattle.sending.specs.Meaning.{InOrder, WholeIsIntact}
use Rattle.sending.specs.Joint.{JointExactly, JointOnly, JointLength, JointUnsent, JointUntold}
use Rattle.sending.specs.Widths.{SegmentOfOtherWidthRefused, SegmentsSameButForIDs}
use Rattle.flows.specs.Apart.{FlowsApart, SamePacketsSameAnswers}
use Rattle.flows.specs.Widths.{OtherWidthRefused, SameButForIDs}
use Rattle.priorities.specs.Joined.{DeliveredFlow}
use Rattle.priorities.specs.Apart.{PriorityApart}
use Rattle.counting.specs.Complete.{CompleteByCount, MarksWithin}
use Rattle.mailing.specs.Mail.{MailSegmentsReadBack}
use Rattle.mailing.specs.ReadBack.{OthersLeaveMail}
use Rattle.mailing.specs.OfCalls.{MessageReadBackOfCalls}
use Rattle.paper_examples.specs.Table.{ExamplesHold, ExamplesOf02}
use Rattle.calls.specs.Rooms.{RoomOfDelivered}
use Rattle.demands.specs.Demands.{OursMeets, OurWriterMeets}
use Rattle.demands.specs.OfCalls.{Demand2OfCalls, Demand3OfCalls, Demand3AnyLoss, Corollary3}
use Rattle.demands.specs.Impostors.{ImpostorsBreak}
use Rattle.promises.specs.ByTable.{ReadingByTable, HeadByTable, SetupByTable, AbandonStreamByTable, AbandonMessageByTable, AskStreamByTable, AskMessageByTable, WriterByTable}
use Rattle.promises.specs.Responses.{ResponsesExactly}
use Rattle.promises.specs.GoodStates.{GoodStatesStay}
use Rattle.promises.specs.Determinism.{OneOutcomeEach}
use Rattle.promises.specs.Ignored.{ReservedAndPadIgnored}
use Rattle.promises.specs.Witnesses.{PremisesCanBeMet}

pub record Promises : Type 0 where
  -- ==== 1. 'Any bytes and any buffers may be handed to any public call. It ends, touches nothing outside its buffers, and answers or refuses by
  -- document 01's table, which fixes what is left in state and memory.' That it ends and touches nothing else is part of every proof; no public
  -- call has a `requires`, and its `ensures` is one equation (of a room: its place and its bytes) for the answer, the state and every lent byte (endpoint/src,
  -- segments/src).

  -- each call is refused exactly by the rows of its table; what each row leaves, and what is left where none holds
  pub reading : ReadingByTable
  pub setup : SetupByTable
  pub abandon_stream_lem : AbandonStreamByTable
  pub abandon_message_lem : AbandonMessageByTable
  pub ask_stream_lem : AskStreamByTable
  pub ask_message_lem : AskMessageByTable
  pub writer : WriterByTable
  -- any two outcomes that a call's promise allows are one
  pub one-outcome : OneOutcomeEach
  -- setup makes a good state, and reading and abandoning leave one
  pub good_states : GoodStatesStay
  -- ==== 2. 'Packets are read, and segments and message responses written, exactly as RapidIO Parts 2 and 10 define them with 01's choices.
  -- What the segment writer makes, a fresh endpoint of that address and MTU reads back, if its room holds it.'

  -- a packet's head is refused by rows 1 to 5, else read as the fields of its type; reserved bits and the pad are ignored
  pub head : HeadByTable
  pub ignored : ReservedAndPadIgnored
  -- a segment of a PDU and a segment of a message give back every field and their data
  pub segments : SegmentsReadBack
  pub mail_segments : MailSegmentsReadBack
  -- when a response is written, with which status, how many bytes, from whom, field by field
  pub responses : ResponsesExactly
  -- the room call with a delivery's context and length hands back exactly the delivered bytes, as many as it says; no length is 0 or reaches past its room
  pub room : RoomOfDelivered
  -- DEMAND 2, of the calls: setup, the writer's calls, read for each packet and the room call deliver exactly the PDU
  pub demand2 : Demand2OfCalls
  -- and a message of any size, its segments in any order with others between: held, DONE, and at the last delivered, once, with its bytes
  pub messages : MessageReadBackOfCalls
  -- why: any other packet leaves an open message its context, with all fields, and all bytes of its room
  pub mail_stays : OthersLeaveMail
  -- ==== 3. 'From fresh: whole PDUs .. Then the PDUs delivered are exactly those that lost nothing, with flow, stream and bytes, in the order of their
  -- last packets; so two sendings that leave the same packets agree on every whole PDU.' (In demands/specs/OfCalls.antt the sentence stands clause
  -- by clause.)

  -- DEMAND 3, of the calls, and the corollary
  pub demand3 : Demand3OfCalls
  pub corollary3 : Corollary3
  -- stronger, of the calls too: however many packets of a PDU are lost, and at every moment
  pub any_loss : Demand3AnyLoss
  -- what its words mean: a flow's packets stand in its order; `whole` is exactly what lost nothing
  pub in_order : InOrder
  pub whole_is_intact : WholeIsIntact
  -- each flow is answered as if its packets came alone, so no flow disturbs another
  pub flows_apart : FlowsApart
  pub same_answers : SamePacketsSameAnswers
  -- demands 2 and 3 and the joint as demands on any endpoint and any writer: ours meet them, and each impostor breaks the one that the paper names
  pub ours : OursMeets
  pub our_writer : OurWriterMeets
  pub impostors : ImpostorsBreak
  -- ==== OUTSIDE: THE JOINT. 'Outside those premises the joint can still happen, and they want to be shown it.'

  -- of two neighbours that each lose exactly one packet, something is delivered exactly if they are a joint; then that PDU, with the second's length
  pub joint : JointExactly
  pub joint_only : JointOnly
  pub joint-length : JointLength
  -- nobody sent it, unless it is one of the two: they have the same end, or the same streamID and the same beginning
  pub joint_unsent : JointUnsent
  -- no receiver can tell: the joint's packets are left by a sending that breaks the neighbours' premise and no other, and by a fair one
  pub joint_untold : JointUntold
  -- ==== THE WIDTH OF AN ID (document 02, M-112). Every line above holds at the width that setup chose, IDs of 16 bits or of 8, and is said once.

  -- a packet of the other width is refused 2 and leaves all, whatever its IDs; so is every segment that was cut for it
  pub other_width : OtherWidthRefused
  pub other_segment : SegmentOfOtherWidthRefused
  -- the same but for the IDs: a segment with IDs of 8 bits is the one of 16 with tt 00 and the two high bytes left out, and the two endpoints answer
  -- the same to it; and to every packet
  pub same-segments : SegmentsSameButForIDs
  pub same-packets : SameButForIDs
  -- ==== PRIORITY BELONGS TO THE FLOW (document 02, M-103). In every line above a flow is a source ID, a priority and a cos.

  -- the source, priority and cos of a delivery are those of every packet that was joined to it, and its bytes are their data
  pub delivered_flow : DeliveredFlow
  -- two type 9 packets that agree in all but their priority are of two flows, which never share a stream context; from fresh, with at most sixteen
  -- flows, what the one's flow is answered does not depend on the other
  pub priority_apart : PriorityApart
  -- ==== COMPLETE BY THE COUNT OF ONES (document 02, M-102). In every line above a message is complete where all its segments are marked.

  -- the count says the same: a segment of several that rows 20 to 24 pass is answered by a message exactly if msglen+1 marks, its own with them, are ones
  pub complete_by_count : CompleteByCount
  -- why the count is right: an open message has no mark past msglen
  pub marks_within : MarksWithin
  -- ==== The paper's starred examples come out as it says, and so does document 02's, with more of its kind; and every premise above can be met
  pub examples : ExamplesHold
  pub examples_of_02 : ExamplesOf02
  pub witnesses : PremisesCanBeMet

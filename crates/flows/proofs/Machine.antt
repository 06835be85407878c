-- Reading treats each flow by itself: the laws of ByFlow hold of every fine board.
use Prim.Native.Nat.{ℕ, ◌+◌, ◌≤◌}
use native.Mathlib.Omega.{arith}
use mathlib.Core.Path.{◌≡◌, refl, ap, ap₂, sym, ◌∙◌, subst}
use mathlib.Core.Bool.{true}
use mathlib.Core.Option.{Option}
use mathlib.Core.List.{List}
use lib.ListN.{length, length-take, length-drop}
use Rattle.lists.specs.Bytes.{AreBytes}
use Rattle.wire.specs.declared.Flow.{Flow}
use Rattle.wire.specs.Segment.{Segment}
use Rattle.wire.specs.declared.MessageSegment.{MessageSegment}
use Rattle.wire.specs.Parsed.{Parsed}
use Rattle.wire.specs.Parsed.{Refused, Stream, Message}
use Rattle.sizes.specs.Sizes.{data_length}
use Rattle.wire.specs.Parsed.{parsed}
use Rattle.contexts.specs.declared.StreamContext.{StreamContext}
use Rattle.wire.specs.declared.Setup.{Setup}
use Rattle.contexts.specs.State.{State}
use Rattle.contexts.specs.Words.{state_of, words_of}
use Rattle.contexts.proofs.Words.{sixteen, eight, state_of_lem}
use Rattle.stream_rooms.specs.Placing as stream_room
use Rattle.streams.specs.Joining as stream_step
use Rattle.streams.proofs.Laws.{data_le}
use Rattle.message_rooms.specs.Placing as message_room
use Rattle.messages.specs.Joining as message_step
use Rattle.reading.specs.Desk.{Desk, state_on}
use Rattle.reading.specs.Table.{lent}
use Rattle.reading.specs.Read.{Settled, of_stream, of_message}
use Rattle.reading.proofs.Rows.{by_parsed}
use Rattle.reading.proofs.Packets.{stream_parsed}
use Rattle.flows.specs.OneFlow.{PDU, flow_step}
use Rattle.flows.specs.Deliveries.{read, delivered_by, view_of, view}
use Rattle.flows.specs.ByFlow.{among, Tells, OwnFlow, NoFlow, ByFlow}
use Rattle.wire.proofs.SameFlow.{same_false}
use Rattle.flows.proofs.Contexts.{Once, Inside}
use Rattle.flows.proofs.Seen.{seen}
use Rattle.flows.proofs.Steps.{Sim, sim_stepped}
use Rattle.flows.proofs.Quiet.{Quiet}
use Rattle.flows.proofs.Steady.{rooms_on, read_is, still-steady, quiet_read}
use Rattle.flows.proofs.Fine.{Fine, view_is, view_of_lem, sound_on}

-- the data of a type 9 packet, all there
pub data_length_lem : (p : List ℕ) (g : Segment) → g.from + g.raw ≡ length p → length (stream_room.data_of p g) ≡ data_length g
data_length_lem p g e = simp (length-take, length-drop) (omega (arith, data_le g))

module _ (setup : Setup) (flows : List Flow) (b : Desk) (p : List ℕ) (f : Fine setup flows b) (bytes : AreBytes p) where
  abbrev s : State
  s = state_on b

  -- reading goes by what the packet is
  read_as : (x : Parsed) → parsed setup p ≡ x → read b p ≡ by_parsed (lent b p) x
  read_as = read_is f.steady p

  -- ---- a type 9 packet
  module _ (few : length flows ≤ 16) (g : Segment) (e : parsed setup p ≡ Stream g) (member : among g.flow flows ≡ true) where
    abbrev j : stream_room.Joined
    j = stream_step.stepped s b.stream_memory p g

    leaves : read b p ≡ of_stream (lent b p) j
    leaves = read_as (Stream g) e

    sim : Sim flows s b.stream_memory g j (flow_step s.setup (view b g.flow) g (stream_room.data_of p g))
    sim =
        subst (λ (v : Option PDU). Sim flows s b.stream_memory g j (flow_step s.setup v g (stream_room.data_of p g))) (sym (view_is b g.flow))
        (sim_stepped flows s b.stream_memory p g (sound_on f) member (data_length_lem p g (stream_parsed p setup g e).1) few f.steady.good)

    back : state_of (words_of j.state) ≡ j.state
    back = state_of_lem j.state sim.leaves.sound.size (ap length sim.same_messages ∙ eight b.words)

    -- a flow's view of what is left
    view_left : (k : Flow) → view (of_stream (lent b p) j).desk k ≡ seen s.setup.room j.state.streams j.memory k
    unfolding view
    view_left k =
        ap (λ (t : State). view_of t j.memory k) back ∙ (view_of_lem j.state j.memory k ∙ ap (λ (n : ℕ). seen n j.state.streams j.memory k) sim.same-room)

    left_fine : Fine setup flows (of_stream (lent b p) j).desk
    left_fine =
        let contexts : (P : List StreamContext → Type 0) → P j.state.streams → P (state_of (words_of j.state)).streams = λ P h. subst (λ (t : State). P t.streams) (sym back) h in
        record {
          steady = still-steady f.steady p bytes (of_stream (lent b p) j) leaves (sim.leaves.sound.rooms ∙ sym (rooms_on f.steady)) refl refl;
          once = contexts Once sim.leaves.sound.once;
          inside = contexts (Inside flows) sim.leaves.sound.inside;
        }

    -- by the state's own MTU and R
    own_flow : OwnFlow (Fine setup flows) s.setup b p g
    own_flow = record {
      ok = subst (λ (y : Settled). Fine setup flows y.desk) (sym leaves) left_fine;
      own = ap (λ (y : Settled). view y.desk g.flow) leaves ∙ (view_left g.flow ∙ sim.leaves.own_is);
      others = λ k ne. ap (λ (y : Settled). view y.desk k) leaves ∙ (view_left k ∙ (sim.leaves.others k (same_false k g.flow ne) ∙ sym (view_is b k)));
      tells =
          subst (λ (y : Settled). Tells s.setup.room y.desk.stream_memory g.flow y.says (flow_step s.setup (view b g.flow) g (stream_room.data_of p g)).told)
          (sym leaves) sim.tells;
      drops = ap (λ (y : Settled). y.dropped) leaves ∙ sim.drops;
    }

    by_stream : OwnFlow (Fine setup flows) setup b p g
    by_stream = subst (λ (t : Setup). OwnFlow (Fine setup flows) t b p g) f.steady.same-setup own_flow

  -- ---- a type 11 packet
  module _ (m : MessageSegment) (e : parsed setup p ≡ Message m) where
    abbrev k : message_room.MessageJoined
    k = message_step.message_stepped s b.message_memory b.response p m

    message_leaves : read b p ≡ of_message (lent b p) k
    message_leaves = read_as (Message m) e

    quiet : Quiet s b.message_memory b.response k
    quiet = quiet_read f.steady p bytes m e

    message_back : state_of (words_of k.state) ≡ k.state
    message_back = state_of_lem k.state (ap length quiet.same_streams ∙ sixteen b.words) (quiet.messages ∙ eight b.words)

    message_view : (x : Flow) → view (of_message (lent b p) k).desk x ≡ view b x
    unfolding view
    message_view x =
        ap (λ (t : State). view_of t b.stream_memory x) message_back
        ∙ (view_of_lem k.state b.stream_memory x
        ∙ (ap₂ (λ (n : ℕ) (cs : List StreamContext). seen n cs b.stream_memory x) quiet.same-room quiet.same_streams
        ∙ sym (view_is b x)))

    message_fine : Fine setup flows (of_message (lent b p) k).desk
    message_fine =
        let same : (state_of (words_of k.state)).streams ≡ s.streams = ap (λ (t : State). t.streams) message_back ∙ quiet.same_streams in
        record {
          steady = still-steady f.steady p bytes (of_message (lent b p) k) message_leaves refl quiet.boxes quiet.reply;
          once = subst Once (sym same) f.once;
          inside = subst (Inside flows) (sym same) f.inside;
        }

    by_message : NoFlow (Fine setup flows) setup b p
    by_message = record {
      ok = subst (λ (y : Settled). Fine setup flows y.desk) (sym message_leaves) message_fine;
      views = λ x. ap (λ (y : Settled). view y.desk x) message_leaves ∙ message_view x;
      tells = ap (λ (y : Settled). delivered_by setup.room y.desk.stream_memory y.says) message_leaves ∙ quiet.tells setup.room b.stream_memory;
    }

  -- ---- a packet that rows 1 to 5 refuse
  by_refused : (number : ℕ) → parsed setup p ≡ Refused number → NoFlow (Fine setup flows) setup b p
  by_refused number e =
      let same : read b p ≡ by_parsed (lent b p) (Refused number) = read_as (Refused number) e in
      record {
        ok = subst (λ (y : Settled). Fine setup flows y.desk) (sym same) f;
        views = λ x. ap (λ (y : Settled). view y.desk x) same;
        tells = ap (λ (y : Settled). delivered_by setup.room y.desk.stream_memory y.says) same;
      }

pub by_flow : (setup : Setup) (flows : List Flow) → length flows ≤ 16 → ByFlow setup flows (Fine setup flows)
by_flow setup flows few = record {
  of_flow_lem = λ b p g f bytes e member. by_stream setup flows b p f bytes few g e member;
  of_message_lem = λ b p m f bytes e. by_message setup flows b p f bytes m e;
  of_refused = λ b p number f bytes e. by_refused setup flows b p f bytes number e;
}

-- R stays: no packet changes it, on any board.
use Prim.Native.Nat.{ℕ}
use mathlib.Core.Path.{◌≡◌, refl, ◌∙◌}
use mathlib.Core.List.{List}
use mathlib.Core.Bool.{Bool, true, false, cond}
use mathlib.Core.Option.{none}
use Rattle.tables.specs.Refusals.{Leaves, all, flow_closed, all_error, all_retry, Verdict, refuse, accept, verdict}
use Rattle.wire.specs.declared.Flow.{Flow}
use Rattle.wire.specs.Segment.{Segment}
use Rattle.wire.specs.declared.MessageSegment.{MessageSegment}
use Rattle.wire.specs.Type11.{is_single}
use Rattle.wire.specs.Head.{is9}
use Rattle.wire.specs.declared.Setup.{Setup}
use Rattle.contexts.specs.State.{State, free_message, message_in}
use Rattle.contexts.specs.Words.{state_of, words_of}
use Rattle.messages.specs.Rows.{message_found as found, message_open}
use Rattle.stream_rooms.specs.Placing as placing
use Rattle.streams.specs.Joining as stream
use Rattle.message_rooms.specs.Placing as boxes
use Rattle.messages.specs.Joining as message
use Rattle.reading.specs.Table.{Lent, lent, state_in, segment_in, message_segment_in, table}
use Rattle.reading.specs.Read.{of_stream, of_message, refusing, outcome, reading}
use Rattle.reading.specs.Desk.{Desk, state_on}
use Rattle.flows.specs.Deliveries.{after, view}
use Rattle.flows.specs.ByFlow.{OwnFlow, NoFlow, ByFlow}
use Rattle.sending.specs.OfSendings.{Begins}

-- words tell the R of their state
words_room : (s : State) → (state_of (words_of s)).setup.room ≡ s.setup.room
unfolding state_of words_of
words_room s = refl

refused_room : (x : Lent) (number : ℕ) (leaves : Leaves) → (state_of (refusing x number leaves).desk.words).setup.room ≡ (state_in x).setup.room
unfolding stream.refused_closing
refused_room x number all = refl
refused_room x number flow_closed = words_room (stream.refused_closing (state_in x) x.desk.stream_memory (segment_in x) number).state
refused_room x number all_error = refl
refused_room x number all_retry = refl

message_room_lem : (s : State) (memory response p : List ℕ) (m : MessageSegment) → (message.message_accepted s memory response p m).state.setup.room ≡ s.setup.room
unfolding message.message_accepted message.delivered_at_once boxes.message_placed
message_room_lem s memory response p m = go (is_single m) (message_open s m)
  where
    go : (a b : Bool)
        → (cond a (message.delivered_at_once s memory response p m (free_message s)) (cond b
        (boxes.message_placed s memory response p m (found s m) (message_in s (found s m)).marks (message_in s (found s m)).last)
        (boxes.message_placed s memory response p m (free_message s) 0 0))).state.setup.room ≡ s.setup.room
    go true b = refl
    go false true = refl
    go false false = refl

accepted-room : (x : Lent) (t : Bool)
    → (state_of (cond t
    (of_stream x (stream.accepted (state_in x) x.desk.stream_memory x.packet (segment_in x)))
    (of_message x (message.message_accepted (state_in x) x.desk.message_memory x.desk.response x.packet (message_segment_in x)))).desk.words).setup.room ≡ (state_in x).setup.room
unfolding stream.accepted placing.placed
accepted-room x true = words_room (stream.accepted (state_in x) x.desk.stream_memory x.packet (segment_in x)).state
accepted-room x false =
    words_room (message.message_accepted (state_in x) x.desk.message_memory x.desk.response x.packet (message_segment_in x)).state
    ∙ message_room_lem (state_in x) x.desk.message_memory x.desk.response x.packet (message_segment_in x)

pub room_stays : (b : Desk) (p : List ℕ) → (state_on (after b p)).setup.room ≡ (state_on b).setup.room
unfolding reading
room_stays b p = go (verdict (table x))
  where
    x : Lent
    x = lent b p

    go : (v : Verdict) → (state_of (outcome x v).desk.words).setup.room ≡ (state_in x).setup.room
    go (refuse number leaves) = refused_room x number leaves
    go accept = accepted-room x (is9 x.packet)

-- so the laws may carry it along
pub record Carried (setup : Setup) (flows : List Flow) (b : Desk) : Type 1 where
  pub Ok : Desk → Type 0
  pub law : ByFlow setup flows Ok
  pub own_R : (c : Desk) → Ok c → (state_on c).setup.room ≡ setup.room
  pub ok : Ok b
  pub closed : (flow : Flow) → view b flow ≡ none

pub carried : (setup : Setup) (flows : List Flow) (b : Desk) → Begins setup flows b → Carried setup flows b
carried setup flows b begins = record {
  Ok = λ (c : Desk). begins.Ok c × ((state_on c).setup.room ≡ setup.room);
  law = record {
    of_flow_lem = λ c p g ok bytes e known. own c p g ok.1 (begins.law.of_flow_lem c p g ok.0 bytes e known);
    of_message_lem = λ c p m ok bytes e. no c p ok.1 (begins.law.of_message_lem c p m ok.0 bytes e);
    of_refused = λ c p number ok bytes e. no c p ok.1 (begins.law.of_refused c p number ok.0 bytes e);
  };
  own_R = λ c ok. ok.1;
  ok = (begins.ok, begins.own_R);
  closed = begins.closed;
}
  where
    own : (c : Desk) (p : List ℕ) (g : Segment) → (state_on c).setup.room ≡ setup.room → OwnFlow begins.Ok setup c p g
        → OwnFlow (λ (d : Desk). begins.Ok d × ((state_on d).setup.room ≡ setup.room)) setup c p g
    own c p g e o = record { ok = (o.ok, room_stays c p ∙ e); own = o.own; others = o.others; tells = o.tells; drops = o.drops }

    no : (c : Desk) (p : List ℕ) → (state_on c).setup.room ≡ setup.room → NoFlow begins.Ok setup c p → NoFlow (λ (d : Desk). begins.Ok d × ((state_on d).setup.room ≡ setup.room)) setup c p
    no c p e o = record { ok = (o.ok, room_stays c p ∙ e); views = o.views; tells = o.tells }

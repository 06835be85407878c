-- What is known of a state that 19 does not name.
use Prim.Native.Nat.{ℕ, ◌≤◌, ◌<◌, ◌+◌, ◌^◌}
use mathlib.Core.Path.{◌≡◌}
use mathlib.Core.Bool.{false, not, ◌||◌}
use native.Mathlib.Omega.{arith}
use lib.Dec.{eqb, ltb, leb}
use lib.ListN.{length}
use borrow.Author.Tests.{eqb-false, ltb-false, leb-false, not-true}
use Rattle.lists.specs.First.{first_of, any}
use Rattle.lists.proofs.First.{first_passes, none_passes}
use Rattle.lists.proofs.Tests.{neither, both, not_both}
use Rattle.wire.specs.declared.Flow.{Flow}
use Rattle.sizes.specs.Sizes.{bad_mtu, bytes_of}
use Rattle.sizes.proofs.Laws.{mtu_fits}
use Rattle.contexts.specs.declared.StreamContext.{StreamContext}
use Rattle.contexts.specs.declared.MessageContext.{MessageContext}
use Rattle.contexts.specs.State.{State, stream_in, message_in, closed_stream, closed_message, is_free_stream, is_free_message, is_of_flow, is_of_message, flow_context, message_context}
use Rattle.marks.specs.Marks.{all_marked}
use Rattle.refusal19.specs.Refusal19.{bad_room, bad_stream, bad_last, bad_marks, bad_message, named_by_19}

-- ---- R
room_fits : (mtu room : ℕ) → bad_room mtu room ≡ false → (mtu ≤ room) × (room ≤ 65536)
unfolding bad_room
room_fits mtu room e =
    let a = neither (ltb room mtu) (ltb 65536 room) e in
    (ltb-false room mtu a.0, ltb-false 65536 room a.1)

-- ---- contexts
pub stream_holds : (room : ℕ) (c : StreamContext) → bad_stream room c ≡ false → is_free_stream c ≡ false → (0 < c.held) × (c.held ≤ room)
unfolding bad_stream
stream_holds room c e h =
    let a = neither (eqb c.held 0) (ltb room c.held) (not_both (is_free_stream c) _ e h) in
    let nonzero = eqb-false c.held 0 a.0 in
    (omega arith, ltb-false room c.held a.1)

pub record Message (c : MessageContext) : Type 0 where
  pub size : bytes_of c.ssize ≡ 0 → ⊥
  pub several : c.msglen ≡ 0 → ⊥
  pub most : c.msglen ≤ 15
  pub inside : c.marks < 2 ^ (c.msglen + 1)
  pub some : c.marks ≡ 0 → ⊥
  pub missing : all_marked c.marks (c.msglen + 1) ≡ false
  pub kept : bad_last c ≡ false

pub message_holds : (c : MessageContext) → bad_message c ≡ false → is_free_message c ≡ false → Message c
unfolding bad_message bad_marks
message_holds c e h =
    let a = neither (eqb (bytes_of c.ssize) 0 || eqb c.msglen 0 || ltb 15 c.msglen) _ (not_both (is_free_message c) _ e h) in
    let b = neither (eqb (bytes_of c.ssize) 0 || eqb c.msglen 0) (ltb 15 c.msglen) a.0 in
    let d = neither (eqb (bytes_of c.ssize) 0) (eqb c.msglen 0) b.0 in
    let f = neither (leb (2 ^ (c.msglen + 1)) c.marks || eqb c.marks 0 || all_marked c.marks (c.msglen + 1)) (bad_last c) a.1 in
    let g = neither (leb (2 ^ (c.msglen + 1)) c.marks || eqb c.marks 0) (all_marked c.marks (c.msglen + 1)) f.0 in
    let i = neither (leb (2 ^ (c.msglen + 1)) c.marks) (eqb c.marks 0) g.0 in
    record {
      size = eqb-false (bytes_of c.ssize) 0 d.0;
      several = eqb-false c.msglen 0 d.1;
      most = ltb-false 15 c.msglen b.1;
      inside = leb-false (2 ^ (c.msglen + 1)) c.marks i.0;
      some = eqb-false c.marks 0 i.1;
      missing = g.1;
      kept = f.1;
    }

-- ---- the whole state
pub record Good (s : State) : Type 0 where
  pub least : 32 ≤ s.setup.mtu
  pub most : s.setup.mtu ≤ 256
  pub holds : s.setup.mtu ≤ s.setup.room
  pub room : s.setup.room ≤ 65536
  pub streams : (i : ℕ) → i < length s.streams → bad_stream s.setup.room (stream_in s i) ≡ false
  pub messages : (i : ℕ) → i < length s.messages → bad_message (message_in s i) ≡ false

pub good : (s : State) → named_by_19 s ≡ false → Good s
unfolding named_by_19
good s e =
    let a = neither (bad_mtu s.setup.mtu || bad_room s.setup.mtu s.setup.room || any (bad_stream s.setup.room) s.streams) (any bad_message s.messages) e in
    let b = neither (bad_mtu s.setup.mtu || bad_room s.setup.mtu s.setup.room) (any (bad_stream s.setup.room) s.streams) a.0 in
    let d = neither (bad_mtu s.setup.mtu) (bad_room s.setup.mtu s.setup.room) b.0 in
    let m = mtu_fits s.setup.mtu d.0 in
    let r = room_fits s.setup.mtu s.setup.room d.1 in
    record {
      least = m.0;
      most = m.1;
      holds = r.0;
      room = r.1;
      streams = none_passes (bad_stream s.setup.room) s.streams closed_stream b.1;
      messages = none_passes bad_message s.messages closed_message a.1;
    }

-- ---- what is found is open, and so good
pub found_open : (s : State) (flow : Flow) → flow_context s flow < length s.streams → is_free_stream (stream_in s (flow_context s flow)) ≡ false
unfolding flow_context is_of_flow
found_open s flow h =
    let p = first_passes (is_of_flow flow) s.streams closed_stream h in
    let o = both (not (is_free_stream (stream_in s (first_of (is_of_flow flow) s.streams)))) _ p in
    not-true (is_free_stream (stream_in s (first_of (is_of_flow flow) s.streams))) o.0

pub found_holds : (s : State) (flow : Flow) → Good s → flow_context s flow < length s.streams
    → (0 < (stream_in s (flow_context s flow)).held) × ((stream_in s (flow_context s flow)).held ≤ s.setup.room)
found_holds s flow g h = stream_holds s.setup.room (stream_in s (flow_context s flow)) (g.streams (flow_context s flow) h) (found_open s flow h)

pub message_open_lem : (s : State) (source letter mbox : ℕ) → message_context s source letter mbox < length s.messages → is_free_message (message_in s (message_context s source letter mbox)) ≡ false
unfolding message_context is_of_message
message_open_lem s source letter mbox h =
    let p = first_passes (is_of_message source letter mbox) s.messages closed_message h in
    let o = both (not (is_free_message (message_in s (first_of (is_of_message source letter mbox) s.messages)))) _ p in
    not-true (is_free_message (message_in s (first_of (is_of_message source letter mbox) s.messages))) o.0

pub message_found_lem : (s : State) (source letter mbox : ℕ) → Good s → message_context s source letter mbox < length s.messages → Message (message_in s (message_context s source letter mbox))
message_found_lem s source letter mbox g h =
    message_holds (message_in s (message_context s source letter mbox)) (g.messages (message_context s source letter mbox) h) (message_open_lem s source letter mbox h)

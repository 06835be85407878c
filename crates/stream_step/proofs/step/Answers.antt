-- `stream_step::step` meets its contract: the packet's bytes are its fields; rows 6 and 7, then by kind.
use Prim.Native.Nat.{ℕ, ◌≤◌, ◌+◌}
use mathlib.Core.Path.{◌≡◌, refl, ap, sym, ◌∙◌}
use mathlib.Core.Bool.{false}
use mathlib.Core.List.{List}
use native.Mathlib.Omega.{arith}
use lib.ListN.{length}
use Rattle.lists.specs.First.{IsFound}
use Rattle.wire.specs.declared.StreamHead.{StreamHead}
use Rattle.wire.specs.Packet.{header, id_bytes}
use Rattle.wire.specs.Type9.{flags}
use Rattle.wire.specs.Inside.{stream_head}
use Rattle.wire.proofs.Fields.{flow_is, from_is, from_least}
use Rattle.rules.specs.Segments.{malformed}
use Rattle.contexts.specs.State.{ids_in, stream_contexts}
use Rattle.contexts.specs.Words.{state_of}
use Rattle.stream_rooms.specs.Inside.{stream_for, Fields}
use Rattle.streams.specs.Rows.{found_for}
use Rattle.streams.specs.Inside.{Passed}
use Rattle.streams.proofs.Laws.{some_data, passed, raw_by, malformed_by, data_by, size_by, begins_by, step-malformed, step-missized}
use Rattle.stream_step.proofs.step.Goals as goal
use Rattle.stream_step.proofs.step.Goals.{After-find_stream-found, Else-is_wrong_form, Else-is_wrong_size}

-- ---- what is known where the packet's fields are read and the flow's context is found

-- every type 9 packet has its flags
head_there : (words p : List ℕ) → (stream_for words p).from + (stream_for words p).raw ≡ length p → header (ids_in (state_of words)) + 2 ≤ length p
head_there words p h = omega (arith, from_least (ids_in (state_of words)) p)

-- what was read is the packet's head at the endpoint's width
head_is : (c : After-find_stream-found) → c.stream_of-head.result ≡ stream_head (ids_in (state_of c.args.state.now)) c.args.packet.now
head_is c = c.stream_of-head.ensures.0 ∙ ap (λ (n : ℕ). stream_head (id_bytes n) c.args.packet.now) c.narrow.ensures

fields : (c : After-find_stream-found) → Fields c.args.state.now c.args.packet.now c.stream_of-head.result
unfolding stream_head
fields c =
    let ids = ids_in (state_of c.args.state.now) in
    let p = c.args.packet.now in
    let bits : c.stream_of-head.result.flags ≡ flags ids p = ap (λ (h : StreamHead). h.flags) (head_is c) in
    record {
      flag_bits = bits;
      data_from_lem = ap (λ (h : StreamHead). h.from) (head_is c) ∙ sym (from_is ids p (rw (← bits) c.stream_of-head.ensures.1));
      sender = ap (λ (h : StreamHead). h.flow) (head_is c) ∙ sym (flow_is ids p);
    }

found-is : (c : After-find_stream-found) → IsFound stream_contexts (found_for (state_of c.args.state.now) (stream_for c.args.state.now c.args.packet.now)) c.find_stream-found.result
found-is c = rw (← (fields c).sender) c.find_stream-found.ensures

-- ---- what is known where row 6 has passed, and row 7, by what was known before

well-formed : (c : Else-is_wrong_form) → Fields c.args.state.now c.args.packet.now c.stream_of-head.result → malformed (stream_for c.args.state.now c.args.packet.now) ≡ false
well-formed c f = malformed_by _ _ f.flag_bits f.data_from_lem refl c.is_wrong_form.ensures c.if-is_wrong_form.false

has-passed : (c : Else-is_wrong_size) → let s = state_of c.args.state.now in let g = stream_for c.args.state.now c.args.packet.now in
    Fields c.args.state.now c.args.packet.now c.stream_of-head.result →
    malformed g ≡ false →
    IsFound stream_contexts (found_for s g) c.find_stream-found.result →
    Passed s g c.find_stream-found.result c.data_length-count.result
has-passed c f good found =
    passed _ _ (data_by _ _ f.flag_bits f.data_from_lem refl c.data_length-count.ensures) c.mtu.ensures good found
    (size_by _ _ f.flag_bits c.data_length-count.result c.mtu.result c.is_wrong_size.ensures c.if-is_wrong_size.false)

-- ---- the ways out

pub stream_of-head-requires : goal.stream_of-head-requires
stream_of-head-requires c = rw c.narrow.ensures (head_there c.args.state.now c.args.packet.now c.requires.inside)

pub overflow_sub-raw : goal.overflow_sub-raw
overflow_sub-raw c = omega (arith, (fields (goal.at.overflow_sub-raw c).After-find_stream-found).data_from_lem, c.requires.inside)

-- 6: no data, odd bytes of data, or O wrong
pub returns-then-is_wrong_form : goal.returns-then-is_wrong_form
returns-then-is_wrong_form c =
    let at-found = (goal.at.returns-then-is_wrong_form c).After-find_stream-found in
    let f = fields at-found in
    let t = c.refused_closing.ensures in
    (step-malformed _ _ _ _ (found-is at-found).0 (malformed_by _ _ f.flag_bits f.data_from_lem refl c.is_wrong_form.ensures c.if-is_wrong_form.true) t.0, t.1)

pub data_length-count-requires : goal.data_length-count-requires
data_length-count-requires c =
    let places = goal.at.data_length-count-requires c in
    let f = fields places.After-find_stream-found in
    rw (raw_by _ _ f.flag_bits f.data_from_lem refl) (some_data _ (well-formed places.Else-is_wrong_form f))

-- 7: not MTU bytes, or over MTU
pub returns-then-is_wrong_size : goal.returns-then-is_wrong_size
returns-then-is_wrong_size c =
    let places = goal.at.returns-then-is_wrong_size c in
    let f = fields places.After-find_stream-found in
    let t = c.refused_closing-then-is_wrong_size.ensures in (
      step-missized _ _ _ _ (well-formed places.Else-is_wrong_form f) (data_by _ _ f.flag_bits f.data_from_lem refl c.data_length-count.ensures) c.mtu.ensures
          (found-is places.After-find_stream-found).0 (size_by _ _ f.flag_bits c.data_length-count.result c.mtu.result c.is_wrong_size.ensures c.if-is_wrong_size.true) t.0,
      t.1,
    )

-- a start or single
pub begin-requires-clause-fields : goal.begin-requires-clause-fields
begin-requires-clause-fields c =
    let places = goal.at.begin-requires-clause-fields c in
    let f = fields places.After-find_stream-found in (
      f,
      record {
        passed = has-passed places.Else-is_wrong_size f (well-formed places.Else-is_wrong_form f) (found-is places.After-find_stream-found);
        start = begins_by _ _ f.flag_bits c.bit.ensures c.if-bit.true;
      },
    )

-- a continuation or end
pub go_on-requires-clause-fields : goal.go_on-requires-clause-fields
go_on-requires-clause-fields c =
    let places = goal.at.go_on-requires-clause-fields c in
    let f = fields places.After-find_stream-found in (
      f,
      record {
        passed = has-passed places.Else-is_wrong_size f (well-formed places.Else-is_wrong_form f) (found-is places.After-find_stream-found);
        start = begins_by _ _ f.flag_bits c.bit.ensures c.if-bit.false;
      },
    )

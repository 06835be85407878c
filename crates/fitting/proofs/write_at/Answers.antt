-- `fitting::write_at` meets its contract: the length that it tests and answers is the packet's, and the head, the field, the data and the pad that it puts are the packet's bytes.
-- A segment below the count begins in the PDU, so the part that is lent lies in it, and it holds a byte: so there is room for a field.
use Rattle.std.proofs.Common.{ℕ, ◌<◌, ◌+◌, ◌*◌, ◌%◌, ◌≡◌, ap, length, arith}
use Rattle.cutting.specs.Cutting.{packet_of}
use Rattle.writing.proofs.Sizes.{begins}
use Rattle.writing.proofs.Packet.{cut-length, cut-bytes}
use Rattle.writing.proofs.Nested.{short, room}
use Rattle.fitting.proofs.write_at.Goals as goal
use Rattle.fitting.proofs.write_at.Goals.{After-head_length-front, Start}

begun : (c : Start) → c.args.number * c.args.mtu < length c.args.pdu.now
begun c = begins c.args.mtu (length c.args.pdu.now) c.args.number c.requires.priority_bound.1 (omega arith)

-- the length that is tested and answered is the packet's
sized : (c : After-head_length-front) → length (packet_of c.args.heading c.args.mtu c.args.pdu.now c.args.number)
    ≡ c.head_length-front.result + c.data_length-n.result + c.data_length-n.result % 2
sized c =
    cut-length c.args.heading c.args.mtu c.args.pdu.now c.args.number c.args.count _ c.args.ids _
    c.requires.count_value.0 c.data_length-n.ensures c.requires.ids_value.0 c.head_length-front.ensures.0

pub overflow_mul-from : goal.overflow_mul-from
overflow_mul-from c = omega (arith, begun (goal.at.overflow_mul-from c).Start)

pub data_length-n-requires : goal.data_length-n-requires
data_length-n-requires c = omega (arith, begun (goal.at.data_length-n-requires c).Start)

-- 16: the output is shorter than the packet
pub returns-then-out-length : goal.returns-then-out-length
returns-then-out-length c =
    short _ (packet_of c.args.heading c.args.mtu c.args.pdu.now c.args.number) _ (sized (goal.at.returns-then-out-length c).After-head_length-front) c.if-out-length.true

pub put_field-requires : goal.put_field-requires
put_field-requires c = omega (arith, begun (goal.at.put_field-requires c).Start)

pub overflow_add-from : goal.overflow_add-from
overflow_add-from c = omega (arith, begun (goal.at.overflow_add-from c).Start)

pub slice_bounds-put-end : goal.slice_bounds-put-end
slice_bounds-put-end c = omega (arith, begun (goal.at.slice_bounds-put-end c).Start)

-- written
pub returns : goal.returns
returns c =
    let bytes =
    cut-bytes c.args.heading c.args.mtu c.args.pdu.now c.args.number c.args.count _ c.args.ids _
    c.requires.count_value.0 c.data_length-n.ensures c.requires.ids_value.0 c.head_length-front.ensures.0
    _ _ c.args.out.now _ _ _ c.if-out-length.false (ap (λ (n : ℕ). n + 2) c.header-at.ensures) c.flags.ensures
    c.put_head.ensures c.put_field.ensures c.put.ensures in
    room _ _ _ (sized (goal.at.returns c).After-head_length-front) _ c.if-out-length.false bytes

-- `responses::address_back` meets its contract: each ID stands behind what was put down before it.
use Rattle.std.proofs.Common.{ℕ, [], ap₂, ◌∙◌}
use Rattle.lists.specs.Bytes.{written}
use Rattle.wire.specs.Packet.{addressed}
use Rattle.ids.proofs.Laws.{addresses}
use Rattle.responses.proofs.address_back.Goals as goal

pub returns : goal.returns
returns c =
    let before = c.args.response.now in
    let first = c.args.first in
    let ids = c.args.ids in
    addresses before _ _ first _ _ ids c.requires.2 c.put_id.ensures c.put_id-2.ensures
    ∙ ap₂ (λ (to by : ℕ). written before 0 (addressed ids first to by [])) c.id_at.ensures c.id_at-2.ensures

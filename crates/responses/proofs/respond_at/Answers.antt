-- `responses::respond_at` meets its contract: byte 0 and the IDs, and two bytes behind them.
use Rattle.std.proofs.Common.{ℕ, ◌+◌, ◌-◌, ◌*◌, ◌≡◌, List, [], ◌∷◌, ◌++◌, set, sym, ap, ap₂, ◌∙◌, arith}
use Rattle.lists.specs.Bytes.{byte, AreBytes, bytes_from, written}
use Rattle.lists.proofs.Numbers.{from_is}
use Rattle.wire.specs.Packet.{header, addressed, source, destination}
use Rattle.ids.proofs.Laws.{two_behind}
use Rattle.responses.specs.Type13.{answered, response_to}
use Rattle.responses.proofs.respond_at.Goals as goal

-- an ID that is read and written is copied
copied : (ids first : ℕ) (p rest : List ℕ) → AreBytes p
    → addressed ids first (source ids p) (destination ids p) rest ≡ first ∷ (bytes_from ids p (1 + ids) ++ (bytes_from ids p 1 ++ rest))
unfolding addressed
copied ids first p rest bytes =
    ap₂ (λ (to by : List ℕ). first ∷ (to ++ (by ++ rest))) (sym (from_is ids p (1 + ids) bytes)) (sym (from_is ids p 1 bytes))

pub returns : goal.returns
unfolding answered response_to
returns c =
    let ids = c.args.ids in
    let before = c.args.response.now in
    let packet = c.args.packet.now in
    let status = c.args.status in
    let back = c.address_back.new.response in
    let h_is : c.header-h.result ≡ header ids = c.header-h.ensures in
    let bytes : AreBytes packet = λ i. omega (arith, c.type_inv.packet i) in
    let fields : List ℕ = (16 + status) ∷ byte packet (header ids + 1) ∷ [] in (
      ap (λ (n : ℕ). n + 2) h_is,
      ap (λ (n : ℕ). set (set back n (16 + status)) (n + 1) (byte packet (n + 1))) h_is
          ∙ (two_behind before _ _ _ _ ids _ _ c.requires.2 c.address_back.ensures
          ∙ (ap (λ (x : ℕ). written before 0 (addressed ids (x * 64 + (ids - 1) * 16 + 13) (source ids packet) (destination ids packet) fields)) c.above.ensures.0
          ∙ ap (written before 0) (copied ids _ packet fields bytes))),
    )

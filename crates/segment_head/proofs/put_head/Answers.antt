-- `segment_head::put_head` meets its contract: byte 0 and the IDs are what `put_addresses` ensures, and two bytes stand behind them. A priority of at most 3 leaves byte 0 room.
use Rattle.std.proofs.Common.{ℕ, ◌+◌, ap, ◌∙◌}
use Rattle.std.proofs.Math.ListN.{set}
use Rattle.ids.proofs.Laws.{two_behind}
use Rattle.segment_head.proofs.put_head.Goals as goal

pub returns : goal.returns
returns c =
    ap (λ (n : ℕ). set (set c.put_addresses.new.out n c.args.heading.cos) (n + 1) c.args.flags) c.header-h.ensures
    ∙ two_behind c.args.out.now _ _ _ _ c.args.ids _ _ c.requires.3 c.put_addresses.ensures

-- `ids::id_at` meets its contract: one byte, else two.
use Rattle.std.proofs.Common.{ℕ, sym, ap, ◌∙◌}
use Rattle.lists.specs.Bytes.{number}
use Rattle.lists.proofs.Numbers.{number-one, number_two, one_or_two}
use Rattle.ids.proofs.id_at.Goals as goal

-- one byte
pub returns-then-ids-eq1 : goal.returns-then-ids-eq1
returns-then-ids-eq1 c =
    c.from.ensures
    ∙ (sym (number-one c.args.packet.now c.args.at)
    ∙ ap (λ (n : ℕ). number n c.args.packet.now c.args.at) (sym c.if-ids-eq1.true))

-- two
pub returns-else-ids-eq1 : goal.returns-else-ids-eq1
returns-else-ids-eq1 c =
    let two = one_or_two c.args.ids c.requires.0 c.requires.1 c.if-ids-eq1.false in
    c.word_at.ensures.0
    ∙ (sym (number_two c.args.packet.now c.args.at) ∙ ap (λ (n : ℕ). number n c.args.packet.now c.args.at) (sym two))

-- `fields::message_of` meets its contract: the bytes of an ID are 2 or 1.
use Rattle.std.proofs.Common.{ℕ, sym, ap, ◌∙◌, arith, rules}
use Rattle.wire.specs.Type11.{message_of}
use Rattle.wire.proofs.Widths.{wide_is, narrow_is}
use Rattle.fields.proofs.message_of.Goals as goal

-- 16 bits
pub message_at-requires : goal.message_at-requires
message_at-requires c =
    let two = wide_is _ c.if-narrow-eq0.true in
    (search rules, search rules, omega (arith, two))

pub returns-then-narrow-eq0 : goal.returns-then-narrow-eq0
returns-then-narrow-eq0 c =
    c.message_at.ensures ∙ ap (λ (ids : ℕ). message_of ids c.args.packet.now) (sym (wide_is _ c.if-narrow-eq0.true))

-- 8 bits
pub message_at-requires-2 : goal.message_at-requires-2
message_at-requires-2 c =
    let one = narrow_is _ c.if-narrow-eq0.false in
    (search rules, search rules, omega (arith, one))

pub returns : goal.returns
returns c = c.message_at-2.ensures ∙ ap (λ (ids : ℕ). message_of ids c.args.packet.now) (sym (narrow_is _ c.if-narrow-eq0.false))

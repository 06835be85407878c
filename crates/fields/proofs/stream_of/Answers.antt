-- `fields::stream_of` meets its contract: the bytes of an ID are 2 or 1.
use Rattle.std.proofs.Common.{ℕ, sym, ap, ◌∙◌, arith, rules}
use Rattle.wire.specs.Inside.{stream_head}
use Rattle.wire.proofs.Widths.{wide_is, narrow_is}
use Rattle.fields.proofs.stream_of.Goals as goal

-- 16 bits
pub stream_at-requires : goal.stream_at-requires
stream_at-requires c =
    let two = wide_is _ c.if-narrow-eq0.true in
    (search rules, search rules, omega (arith, two))

pub returns-then-narrow-eq0 : goal.returns-then-narrow-eq0
returns-then-narrow-eq0 c =
    (c.stream_at.ensures.0 ∙ ap (λ (ids : ℕ). stream_head ids c.args.packet.now) (sym (wide_is _ c.if-narrow-eq0.true)), c.stream_at.ensures.1)

-- 8 bits
pub stream_at-requires-2 : goal.stream_at-requires-2
stream_at-requires-2 c =
    let one = narrow_is _ c.if-narrow-eq0.false in
    (search rules, search rules, omega (arith, one))

pub returns : goal.returns
returns c =
    (c.stream_at-2.ensures.0 ∙ ap (λ (ids : ℕ). stream_head ids c.args.packet.now) (sym (narrow_is _ c.if-narrow-eq0.false)), c.stream_at-2.ensures.1)

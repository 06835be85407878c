-- `responses::respond` meets its contract: the bytes of an ID are 2 or 1.
use Rattle.std.proofs.Common.{ℕ, ◌≡◌, List, sym, subst, arith, rules}
use Rattle.wire.proofs.Widths.{wide_is, narrow_is}
use Rattle.responses.specs.Type13.{response_size, answered}
use Rattle.responses.proofs.respond.Goals as goal

-- the promise at so many bytes
abbrev Promise : (written : ℕ) (after before packet : List ℕ) (status ids : ℕ) → Type 0
Promise written after before packet status ids = (written ≡ response_size ids) × (after ≡ answered ids before packet status)

-- 16 bits
pub respond_at-requires : goal.respond_at-requires
respond_at-requires c =
    let two = wide_is _ c.if-narrow-eq0.true in
    (search rules, search rules, omega (arith, two, c.requires.0), omega (arith, two, c.requires.1), c.requires.2)

pub returns-then-narrow-eq0 : goal.returns-then-narrow-eq0
returns-then-narrow-eq0 c = subst (Promise _ _ _ _ _) (sym (wide_is _ c.if-narrow-eq0.true)) c.respond_at.ensures

-- 8 bits
pub respond_at-requires-2 : goal.respond_at-requires-2
respond_at-requires-2 c =
    let one = narrow_is _ c.if-narrow-eq0.false in
    (search rules, search rules, omega (arith, one, c.requires.0), omega (arith, one, c.requires.1), c.requires.2)

pub returns : goal.returns
returns c = subst (Promise _ _ _ _ _) (sym (narrow_is _ c.if-narrow-eq0.false)) c.respond_at-2.ensures

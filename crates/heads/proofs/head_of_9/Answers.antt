-- `heads::head_of_9` meets its contract: xh, then whether there is room for a field, then whether there is one.
use Prim.Native.Nat.{ℕ, ◌+◌}
use mathlib.Core.Path.{◌≡◌, sym, ap, ◌∙◌}
use mathlib.Core.Bool.{false}
use mathlib.Core.List.{List}
use native.Mathlib.Omega.{arith}
use Rattle.lists.specs.Bytes.{byte}
use Rattle.wire.specs.Packet.{header}
use Rattle.wire.specs.Type9.{flags, xh}
use Rattle.wire.proofs.HeadLaws.{extended, no_field, field_cut, long-enough}
use Rattle.wire.proofs.Fields.{low-flags, high_flags}
use Rattle.heads.proofs.head_of_9.Goals as goal
use Rattle.heads.proofs.head_of_9.Goals.{Else-bit}

-- the flags that were read, by where they were read
flags-read : (p : List ℕ) (ids h f : ℕ) → f ≡ byte p (h + 1) → h ≡ header ids → f ≡ flags ids p
flags-read p ids h f a b = a ∙ ap (λ (n : ℕ). byte p (n + 1)) b

-- ---- what is known once row 5 has passed

not_extended : (c : Else-bit) → xh c.args.ids c.args.packet.now ≡ false
not_extended c = rw (← flags-read c.args.packet.now c.args.ids _ _ c.wide-flags.ensures.0 c.header-h.ensures) (sym c.bit.ensures ∙ c.if-bit.false)

-- ---- the ways out

-- 5: xh
pub returns-then-bit-clause-number : goal.returns-then-bit-clause-number
returns-then-bit-clause-number c =
    let e = flags-read c.args.packet.now c.args.ids _ _ c.wide-flags.ensures.0 c.header-h.ensures in
    extended _ _ c.requires.2 (rw (← e) (sym c.bit.ensures ∙ c.if-bit.true))

-- long enough for a field
pub returns-then-h-packet-clause-number : goal.returns-then-h-packet-clause-number
returns-then-h-packet-clause-number c =
    long-enough _ _ c.requires.2 (not_extended (goal.at.returns-then-h-packet-clause-number c).Else-bit) (omega (arith, c.header-h.ensures))

-- neither S nor E
pub returns-then-flags-lt64-clause-number : goal.returns-then-flags-lt64-clause-number
returns-then-flags-lt64-clause-number c =
    let e = flags-read c.args.packet.now c.args.ids _ _ c.wide-flags.ensures.0 c.header-h.ensures in
    let low = low-flags _ c.if-flags-lt64.true in
    no_field _ _ c.requires.2 (not_extended (goal.at.returns-then-flags-lt64-clause-number c).Else-bit) (rw (← e) low.0) (rw (← e) low.1)

-- 1: no room for the field
pub returns-clause-number : goal.returns-clause-number
returns-clause-number c =
    let e = flags-read c.args.packet.now c.args.ids _ _ c.wide-flags.ensures.0 c.header-h.ensures in
    field_cut _ _ c.requires.2 (not_extended (goal.at.returns-clause-number c).Else-bit) (rw (← e) (high_flags _ c.wide-flags.ensures.1 c.if-flags-lt64.false))
    (omega (arith, c.header-h.ensures))

-- `endpoint::setup` meets its contract: each return is a row of setup's table, or a fresh state.
use Rattle.std.proofs.Common.{sym, ◌∙◌}
use Rattle.endpoint.proofs.Calls.{setup-short, setup_wide, setup_mtu, setup-room, setup-ready}
use Rattle.endpoint.proofs.setup.Goals as goal

-- 12: a buffer that is no state
pub returns-then-state-ne-WORDS : goal.returns-then-state-ne-WORDS
returns-then-state-ne-WORDS c = setup-short _ _ c.if-state-ne-WORDS.true

-- 47: 8 bits and a device ID over 255
pub returns-then-too_wide : goal.returns-then-too_wide
returns-then-too_wide c =
    setup_wide _ _ c.if-state-ne-WORDS.false _ (sym c.too_wide.ensures ∙ c.if-too_wide.true) c.clear.ensures

-- 18: an MTU that is not allowed
pub returns-then-bad_mtu : goal.returns-then-bad_mtu
returns-then-bad_mtu c =
    setup_mtu _ _ c.if-state-ne-WORDS.false (sym c.too_wide.ensures ∙ c.if-too_wide.false) _ (sym c.bad_mtu.ensures ∙ c.if-bad_mtu.true) c.clear-then-bad_mtu.ensures

-- 19: R out of range
pub returns-then-bad_room : goal.returns-then-bad_room
returns-then-bad_room c =
    setup-room _ _ c.if-state-ne-WORDS.false (sym c.too_wide.ensures ∙ c.if-too_wide.false) _
    (sym c.bad_mtu.ensures ∙ c.if-bad_mtu.false) (sym c.bad_room.ensures ∙ c.if-bad_room.true) c.clear-then-bad_room.ensures

-- a fresh state
pub returns : goal.returns
returns c =
    setup-ready _ _ c.if-state-ne-WORDS.false (sym c.too_wide.ensures ∙ c.if-too_wide.false) _
    (sym c.bad_mtu.ensures ∙ c.if-bad_mtu.false) (sym c.bad_room.ensures ∙ c.if-bad_room.false) c.begin.ensures

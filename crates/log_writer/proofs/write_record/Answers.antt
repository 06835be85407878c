-- `log_writer::write_record` meets its contract: each way out is one of the table's, and the first group or both are the length's bytes.
use Rattle.std.proofs.Common.{ℕ, ap, ◌∙◌, take}
use Rattle.log_writer.proofs.Laws.{too_long, no_room, whole}
use Rattle.log_writer.proofs.write_record.Goals as goal

-- 12
pub returns-then-packet-gt-LONGEST : goal.returns-then-packet-gt-LONGEST
returns-then-packet-gt-LONGEST c = too_long _ _ c.if-packet-gt-LONGEST.true

-- 16
pub returns-then-out-length : goal.returns-then-out-length
returns-then-out-length c =
    no_room _ _ _ c.if-packet-gt-LONGEST.false c.front_of-front.ensures.0 c.if-out-length.true

-- written
pub returns : goal.returns
returns c =
    let front = c.front_of-front.ensures.0 in
    whole _ _ _ c.if-packet-gt-LONGEST.false front _ _ _ c.if-out-length.false
    (ap (λ (n : ℕ). take n c.groups_of-groups.result) front ∙ c.groups_of-groups.ensures.0) c.copy.ensures c.store.ensures

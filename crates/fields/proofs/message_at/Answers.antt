-- `fields::message_at` meets its contract: each field is read from its place.
use Rattle.wire.specs.Type11.{message_of}
use Rattle.fields.proofs.message_at.Goals as goal

pub returns : goal.returns
unfolding message_of
returns c = simp (← c.header-h.ensures, ← c.wide-sizes.ensures.0, ← c.wide-names.ensures.0, ← c.id_at.ensures)

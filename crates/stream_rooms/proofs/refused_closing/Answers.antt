-- `stream_rooms::refused_closing` meets its contract: where no context is open, none is closed.
use mathlib.Core.Path.{refl}
use native.Mathlib.Omega.{arith}
use Rattle.contexts.proofs.Words.{sixteen}
use Rattle.contexts.specs.Words.{state_of}
use Rattle.stream_rooms.proofs.Laws.{put_nowhere}
use Rattle.stream_rooms.proofs.refused_closing.Goals as goal

-- none is open
pub returns-in_default : goal.returns-in_default
returns-in_default g c =
    let words = c.args.state.now in
    rw (c.in_default.is, c.refusal.ensures) (record { answer = refl; drop = refl; state = put_nowhere (state_of words) _ (sixteen words) (omega arith) }, refl)

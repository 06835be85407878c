-- The sixteen, by computation.
use Prim.Native.Nat.{ℕ}
use mathlib.Core.Path.{refl}
use Rattle.lists.specs.Each.{Each}
use Rattle.wire.specs.Parsed.{parsed}
use Rattle.flows.specs.Widths.{both_widths}
use Rattle.sending.specs.Sending.{put_of, Fair}
use Rattle.sending.proofs.Decided.{is_fair_lem, deciding}
use Rattle.paper_examples.proofs.Computing.{computing}
use Rattle.sixteen.specs.Sixteen.{sixteen_setup, sixteen_open, SixteenAtOnce, SixteenDelivered}

fair : Each (λ (narrow : ℕ). Fair (sixteen_setup narrow) (sixteen_open narrow)) both_widths
unfolding deciding computing parsed
fair = (is_fair_lem (sixteen_setup 0) (sixteen_open 0) refl, (is_fair_lem (sixteen_setup 1) (sixteen_open 1) refl, tt))

pub sixteen_at_once : SixteenAtOnce
unfolding computing put_of
sixteen_at_once = (
  record { fair = fair.0; start_lost_lem = refl; middle_lost = refl; all_open = refl; complete = refl },
  (record { fair = fair.1.0; start_lost_lem = refl; middle_lost = refl; all_open = refl; complete = refl }, tt),
)

pub sixteen_delivered : SixteenDelivered
unfolding computing put_of
sixteen_delivered = refl

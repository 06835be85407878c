-- Whatever reading says and leaves, an answer of the call says it: so a call that the promise allows can always be made.
use Prim.Native.Nat.{ℕ}
use mathlib.Core.Path.{◌≡◌, refl, ap, sym, subst}
use mathlib.Core.Bool.{Bool, true, false, cond}
use mathlib.Core.List.{List, [], ◌∷◌}
use Rattle.lists.specs.Each.{Each}
use Rattle.lists.proofs.Tests.{◌and◌}
use Rattle.tables.specs.Refusals.{Row, Leaves, all, flow_closed, all_error, all_retry, refuse, accept, verdict, by_verdict, given}
use Rattle.wire.specs.Head.{is9, head_rows}
use Rattle.wire.specs.Type11.{is_single}
use Rattle.refusals.proofs.Back.{IsRow, refusal_of}
use Rattle.refusals.specs.declared.Refusal.{Refusal}
use Rattle.answers.specs.declared.Reading.{Reading}
use Rattle.answers.specs.Answers.{Said, said, held, delivered, message, refused}
use Rattle.answers.proofs.Once as once
use Rattle.answers.proofs.Once.{Sayable}
use Rattle.rules.specs.Messages.{form_rows}
use Rattle.stream_rooms.specs.Placing as stream_room
use Rattle.streams.specs.Rows.{stream_rows}
use Rattle.streams.specs.Joining as stream
use Rattle.message_rooms.specs.Placing as message_room
use Rattle.message_rooms.specs.Placing.{MessageJoined}
use Rattle.messages.specs.Rows.{message_rows, message_open}
use Rattle.messages.specs.Joining.{message_accepted, delivered_at_once}
use Rattle.reading.specs.Table.{Lent, table, lent_rows, state_in, segment_in, message_segment_in}
use Rattle.reading.specs.Read.{Settled, settled, reading, refusing, accepting, ReadPromise}

-- a choice of two, each of which says what can be said
chosen : {O : Type 0} (says : O → Said) (b : Bool) (x y : O) → Sayable (says x) → Sayable (says y) → Sayable (says (cond b x y))
chosen says true x y p q = p
chosen says false x y p q = q

-- where the numbers of a table are rows, what it decides can be said
decided : {O : Type 0} (says : O → Said) (refuses : ℕ → Leaves → O) (accepts : O) (rows : List Row) → Each (λ (r : Row). IsRow r.number) rows
    → ((n : ℕ) (leaves : Leaves) → IsRow n → Sayable (says (refuses n leaves))) → Sayable (says accepts) → Sayable (says (by_verdict refuses accepts (verdict rows)))
unfolding verdict
decided says refuses accepts [] each p q = q
decided {O} says refuses accepts (r ∷ rs) each p q = go r.holds (decided says refuses accepts rs each.1 p q)
  where
    go : (b : Bool) → Sayable (says (by_verdict refuses accepts (verdict rs))) → Sayable (says (by_verdict refuses accepts (cond b (refuse r.number r.leaves) (verdict rs))))
    go true later = p r.number r.leaves each.0
    go false later = later

module _ (x : Lent) where
  -- the table's numbers: 19, 12; 1, 2, 3, 4, 1, 5, 1; 6 to 11; 20 to 25
  rows : Each (λ (r : Row). IsRow r.number) (table x)
  unfolding table lent_rows head_rows given stream_rows message_rows form_rows refusal_of
  rows =
      refl and refl
      and refl and refl and refl and refl and refl and refl and refl
      and refl and refl and refl and refl and refl and refl
      and refl and refl and refl and refl and refl and refl and tt

  -- ---- what is accepted

  stream_sayable : Sayable (stream.accepted (state_in x) x.desk.stream_memory x.packet (segment_in x)).says
  unfolding stream.accepted stream_room.placed
  stream_sayable = chosen (λ (s : Said). s) _ _ _ (once.delivered_sayable _ _ _ _) once.held_sayable

  placed_sayable : (n marks last : ℕ) → Sayable (message_room.message_placed (state_in x) x.desk.message_memory x.desk.response x.packet (message_segment_in x) n marks last).says
  unfolding message_room.message_placed
  placed_sayable n marks last = chosen (λ (s : Said). s) _ _ _ (once.message_sayable _ _ _ _ _) once.held_sayable

  at_once_sayable : (n : ℕ) → Sayable (delivered_at_once (state_in x) x.desk.message_memory x.desk.response x.packet (message_segment_in x) n).says
  unfolding delivered_at_once
  at_once_sayable n = once.message_sayable _ _ _ _ _

  message_sayable : Sayable (message_accepted (state_in x) x.desk.message_memory x.desk.response x.packet (message_segment_in x)).says
  unfolding message_accepted
  message_sayable =
      let says : MessageJoined → Said = λ j. j.says in
      chosen says _ _ _ (at_once_sayable _) (chosen says _ _ _ (placed_sayable _ _ _) (placed_sayable _ _ _))

  -- ---- what is refused

  refusing_sayable : (number : ℕ) (leaves : Leaves) → IsRow number → Sayable (refusing x number leaves).says
  unfolding stream.refused_closing
  refusing_sayable number all e = once.refused_sayable number e
  refusing_sayable number flow_closed e = once.refused_sayable number e
  refusing_sayable number all_error e = once.refused_sayable number e
  refusing_sayable number all_retry e = once.refused_sayable number e

  -- ---- so what reading says

  abbrev pub answered_by : Reading Refusal
  answered_by = record { answer = once.answer_of (reading x).says; dropped = (reading x).dropped; response = (reading x).replied }

  pub says_it : said answered_by.answer ≡ (reading x).says
  unfolding reading
  says_it =
      let says : Settled → Said = λ o. o.says in
      decided says (refusing x) (accepting x) (table x) rows refusing_sayable (chosen says (is9 x.packet) _ _ stream_sayable message_sayable)

  pub promised : ReadPromise x answered_by (reading x).desk
  promised = ap (λ (s : Said). settled s (reading x).dropped (reading x).replied (reading x).desk) says_it

-- What the functions of choosing and message_step rely on and promise each other. No promise of a public call speaks of it.
use Rattle.std.specs.Prelude.{ℕ, ◌<◌, ◌≡◌, List, false, cond, eqb, length, Result, IfOk}
use Rattle.refusals.specs.declared.Refusal.{Refusal}
use Rattle.refusals.specs.Numbers.{refused_by}
use Rattle.wire.specs.declared.MessageSegment.{MessageSegment}
use Rattle.wire.specs.Type11.{is_single}
use Rattle.responses.specs.Type13.{ERROR, RETRY}
use Rattle.contexts.specs.State.{State}
use Rattle.contexts.specs.Words.{state_of, state_words}
use Rattle.refusal19.specs.Refusal19.{named_by_19}
use Rattle.message_rooms.specs.Placing.{message_placed}
use Rattle.message_rooms.specs.Inside.{MessageFits}
use Rattle.messages.specs.declared.Chosen.{Chosen}
use Rattle.messages.specs.Rows.{other_message, already_marked, needed_none_free}
use Rattle.messages.specs.Joining.{message_accepted}

-- words of a state that 19 does not name, and a segment of a message of several
pub record OfSeveral (words : List ℕ) (m : MessageSegment) : Type 0 where
  pub whole : length words ≡ state_words
  pub good : named_by_19 (state_of words) ≡ false
  pub number : m.msgseg < 16
  pub several : is_single m ≡ false

-- the first of rows 23 to 25 that holds, or 0
unfoldable pub refusal_by_state : State → MessageSegment → ℕ
refusal_by_state s m = cond (other_message s m) 23 (cond (already_marked s m) 24 (cond (needed_none_free s m) 25 0))

-- the status that these rows write
unfoldable pub refusal_status : ℕ → ℕ
refusal_status number = cond (eqb number 25) RETRY ERROR

-- context n, with the marks and the last length that it has so far: placed there, the segment leaves what an accepted one does
pub record Goes (s : State) (m : MessageSegment) (n marks last : ℕ) : Type 0 where
  pub accepts : (memory response p : List ℕ) → message_placed s memory response p m n marks last ≡ message_accepted s memory response p m
  pub fits : MessageFits m n marks last

-- refused by a row, or where it goes
pub record Chooses (s : State) (m : MessageSegment) (r : Result Chosen Refusal) : Type 0 where
  pub row : refused_by r ≡ refusal_by_state s m
  pub goes : IfOk r (λ c. Goes s m c.n c.marks c.last)

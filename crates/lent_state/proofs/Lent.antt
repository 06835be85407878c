-- Laws of what a lent state is refused with: each way through the test, what is known of a state that passed, and the rows by their number.
use Prim.Native.Nat.{ℕ, ◌≤◌, ◌<◌, ◌+◌, ◌*◌}
use mathlib.Core.Path.{◌≡◌, refl}
use mathlib.Core.List.{List}
use mathlib.Core.Bool.{true, false}
use native.Mathlib.Omega.{arith}
use native.Mathlib.Nat.{suc-mul, mul-le-mul_right}
use lib.ListN.{length}
use lib.Dec.{eqb, ltb, leb}
use borrow.Author.Tests.{eq-eqb, ne_eqb, lt-ltb, le-ltb, le-leb, eqb-true, ltb-true, leb-true, not-false}
use Rattle.lists.proofs.Tests.{both, not-second}
use Rattle.tables.specs.Refusals.{all, refuse, accept, verdict, none}
use Rattle.tables.proofs.Exactly.{none-held}
use Rattle.tables.proofs.Numbers.{number_refused, number-accepted}
use Rattle.contexts.specs.State.{stream_contexts}
use Rattle.contexts.specs.Words.{state_of, state_words}
use Rattle.refusal19.specs.Refusal19.{named_by_19}
use Rattle.lent_state.specs.Lent.{state_rows, state_refusal, has_room}

-- ---- the test, by what the code asks
module _ (words : List ℕ) where
  pub no_state : (length words ≡ state_words → ⊥) → 12 ≡ state_refusal words
  unfolding state_refusal verdict
  no_state l = rw (ne_eqb (length words) state_words l)

  module _ (l : length words ≡ state_words) where
    pub named_state : named_by_19 (state_of words) ≡ true → 19 ≡ state_refusal words
    unfolding state_refusal verdict
    named_state h = rw (eq-eqb (length words) state_words l, h)

    pub good-state : named_by_19 (state_of words) ≡ false → 0 ≡ state_refusal words
    unfolding state_refusal verdict
    good-state h = rw (eq-eqb (length words) state_words l, h)

  -- ---- and back: the rows' verdict by the number, and what is known where that is 0

  pub state_refused : (number : ℕ) → number ≡ state_refusal words → (number ≡ 0 → ⊥) → verdict (state_rows words) ≡ refuse number all
  unfolding state_refusal
  state_refused number = number_refused all (state_rows words) number (refl, (refl, tt))

  pub state_passed : state_refusal words ≡ 0 → verdict (state_rows words) ≡ accept
  unfolding state_refusal
  state_passed = number-accepted (state_rows words) (λ e. omega arith, (λ e. omega arith, tt))

  -- a state, and 19 does not name it
  pub state_there : state_refusal words ≡ 0 → (length words ≡ state_words) × (named_by_19 (state_of words) ≡ false)
  unfolding none
  state_there z =
      let rows : none (state_rows words) = none-held (state_rows words) (state_passed z) in
      let whole : eqb (length words) state_words ≡ true = not-false (eqb (length words) state_words) rows.1.0 in
      (eqb-true (length words) state_words whole, not-second (eqb (length words) state_words) (named_by_19 (state_of words)) whole rows.0)

-- ---- rooms
module _ (rooms room size n l : ℕ) where
  -- which rooms there are, by what the code asks
  pub other_size : (size ≡ rooms * room → ⊥) → false ≡ has_room rooms room size n l
  unfolding has_room
  other_size a = rw (ne_eqb size (rooms * room) a)

  module _ (a : size ≡ rooms * room) where
    pub past_last_lem : rooms ≤ n → false ≡ has_room rooms room size n l
    unfolding has_room
    past_last_lem b = rw (eq-eqb size (rooms * room) a, le-ltb n rooms b)

    pub by_length : n < rooms → leb l room ≡ has_room rooms room size n l
    unfolding has_room
    by_length b = rw (eq-eqb size (rooms * room) a, lt-ltb n rooms b)

    pub room-there : n < rooms → l ≤ room → has_room rooms room size n l ≡ true
    unfolding has_room
    room-there b d = rw (eq-eqb size (rooms * room) a, lt-ltb n rooms b, le-leb l room d)

  -- a room that is there ends inside the memory
  pub room-inside : has_room rooms room size n l ≡ true → n * room + l ≤ size
  unfolding has_room
  room-inside e =
      let a = both (eqb size (rooms * room)) _ e in
      let b = both (ltb n rooms) (leb l room) a.1 in
      let k : n < rooms = ltb-true n rooms b.0 in
      omega (arith, eqb-true size (rooms * room) a.0, suc-mul n room, mul-le-mul_right room k, leb-true l room b.1)

-- rooms of at most 65,536 bytes, as many as there are contexts
pub rooms_small : (rooms room : ℕ) → rooms ≤ stream_contexts → room ≤ 65536 → rooms * room ≤ 1048576
rooms_small rooms room a b = omega (arith, mul-le-mul_right room a)

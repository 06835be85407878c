-- A type 9 packet leaves the message contexts, delivers no message, and leaves its memory as long as it was, in any good state.
use Prim.Native.Nat.{ℕ, ◌+◌, ◌*◌, ◌≤◌, ◌<◌}
use mathlib.Core.Path.{◌≡◌, refl}
use mathlib.Core.List.{List}
use mathlib.Core.Bool.{Bool, true, false, cond, not, ◌&&◌, true≢false}
use native.Mathlib.Omega.{arith}
use lib.ListN.{length, length-take, length-drop, length-set}
use lib.Dec.{ltb}
use borrow.Author.Tests.{ltb-true, ltb-false, not-false}
use Rattle.answers.specs.Answers.{held, delivered}
use Rattle.wire.specs.Segment.{Segment}
use Rattle.sizes.specs.Sizes.{data_length}
use Rattle.contexts.specs.State.{State, free_stream}
use Rattle.tables.specs.Refusals.{none}
use Rattle.stream_rooms.specs.Placing.{Joined, data_of, placed}
use Rattle.streams.specs.Rows.{found_for, flow_open, held_before, total, not_open, passes_room, none_free, stream_rows}
use Rattle.streams.specs.Joining.{context_for, accepted, refused_closing, refused_staying, stepped}
use Rattle.streams.proofs.Laws.{data_le, step_cases}
use Rattle.flows.proofs.Rooms.{stored-length}
use Rattle.mailing.specs.Mail.{Posted}
use Rattle.mailing.proofs.Contexts.{is_told_of}

pub record Beside (s : State) (memory : List ℕ) (j : Joined) : Type 0 where
  pub messages : j.state.messages ≡ s.messages
  pub streams : length j.state.streams ≡ length s.streams
  pub rooms : length j.memory ≡ length memory
  -- and no message is delivered
  pub silent : (x : Posted) → is_told_of x j.says ≡ false

module _ (s : State) (memory p : List ℕ) (g : Segment) (rooms : length memory ≡ 16 * s.setup.room) (whole : g.from + g.raw ≡ length p) where
  beside_staying : (number : ℕ) → Beside s memory (refused_staying s memory number)
  unfolding refused_staying
  beside_staying number = record { messages = refl; streams = refl; rooms = refl; silent = λ x. refl }

  beside_closing : (number : ℕ) → Beside s memory (refused_closing s memory g number)
  unfolding refused_closing
  beside_closing number = record { messages = refl; streams = simp length-set; rooms = refl; silent = λ x. refl }

  data_length_lem : length (data_of p g) ≡ data_length g
  data_length_lem = simp (length-take, length-drop) (omega (arith, data_le g))

  -- the data end inside the room
  beside_accepted : context_for s g < 16 → total s g ≤ s.setup.room → Beside s memory (accepted s memory p g)
  unfolding accepted placed
  beside_accepted lt fits = record {
    messages = refl;
    streams = simp length-set;
    rooms = stored-length s.setup.room memory rooms (context_for s g) lt (held_before s g) (data_of p g) (omega (arith, data_length_lem));
    silent = λ x. told x g.ends _ _ _;
  }
    where
      told : (x : Posted) (b : Bool) (n stream count : ℕ) → is_told_of x (cond b (delivered n g.flow stream count) held) ≡ false
      told x true n stream count = refl
      told x false n stream count = refl

  -- row 8 left an open context, or row 10 a free one
  context_there : not_open s g ≡ false → none_free s g ≡ false → context_for s g < 16
  unfolding not_open none_free
  context_there = go g.begins (flow_open s g) refl
    where
      go : (begins opened : Bool) → flow_open s g ≡ opened → (not begins && not opened) ≡ false → (begins && (not opened && not (ltb (free_stream s) 16))) ≡ false
          → cond opened (found_for s g) (free_stream s) < 16
      go begins true e row_8 row_10 = ltb-true (found_for s g) 16 e
      go true false e row_8 row_10 = ltb-true (free_stream s) 16 (not-false (ltb (free_stream s) 16) row_10)
      go false false e row_8 row_10 = absurd (true≢false row_8)

  -- and row 9 a total within R
  pub beside_stepped : Beside s memory (stepped s memory p g)
  unfolding stream_rows none passes_room
  beside_stepped =
      step_cases s memory p g (Beside s memory) beside_staying beside_closing
      (λ passed. beside_accepted (context_there passed.1.1.0 passed.1.1.1.1.0) (ltb-false s.setup.room (total s g) passed.1.1.1.0))

-- What a type 9 segment leaves in one context and its room (document 01, 'Cutting and joining PDUs').
use Rattle.std.specs.Prelude.{ℕ, ◌+◌, ◌*◌, List, Bool, cond, take, drop}
use Rattle.lists.specs.Bytes.{written}
use Rattle.answers.specs.Answers.{Said, held, delivered}
use Rattle.wire.specs.Segment.{Segment}
use Rattle.sizes.specs.Sizes.{data_length}
use Rattle.contexts.specs.declared.StreamContext.{StreamContext}
use Rattle.contexts.specs.State.{State, with_stream, closed_stream, open_stream}

-- the answer, whether an open context was closed undelivered, the state and the stream memory
pub record Joined : Type 0 where
  pub says : Said
  pub dropped : Bool
  pub state : State
  pub memory : List ℕ

abbrev pub joining : Said → Bool → State → List ℕ → Joined
joining says dropped state memory = record { says = says; dropped = dropped; state = state; memory = memory }

-- the segment's data, the pad left out
abbrev pub data_of : List ℕ → Segment → List ℕ
data_of p g = take (data_length g) (drop g.from p)

-- the answer and the context once `total` bytes of the PDU are in: an end or single is delivered and frees the context, else the PDU is held
abbrev pub answer_at : Segment → ℕ → ℕ → ℕ → Said
answer_at g n stream total = cond g.ends (delivered n g.flow stream total) held

abbrev pub context_at : Segment → ℕ → ℕ → StreamContext
context_at g stream total = cond g.ends closed_stream (open_stream g.flow stream total)

-- a segment's data are stored in room n behind `base` bytes
unfoldable pub placed : State → List ℕ → List ℕ → Segment → ℕ → ℕ → ℕ → Bool → Joined
placed s memory p g n base stream dropped =
    joining (answer_at g n stream (base + data_length g))
    dropped
    (with_stream s n (context_at g stream (base + data_length g)))
    (written memory (n * s.setup.room + base) (data_of p g))

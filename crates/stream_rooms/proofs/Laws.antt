-- Laws of a context's room: what a store and a context put make of it.
use Prim.Native.Nat.{ℕ, ◌≤◌, ◌+◌, ◌-◌, ◌*◌}
use mathlib.Core.Path.{◌≡◌, refl, ap, sym, subst, subst₂, ◌∙◌}
use mathlib.Core.List.{List}
use mathlib.Core.Bool.{Bool, true, false, ◌||◌}
use native.Mathlib.Omega.{arith}
use native.Mathlib.Nat.{zero-add}
use lib.ListN.{length}
use lib.Seq.{set_out}
use Rattle.lists.specs.Bytes.{word, written}
use Rattle.std.specs.Prelude.{Result}
use Rattle.refusals.specs.declared.Refusal.{Refusal}
use Rattle.answers.specs.Answers.{Said, said, held}
use Rattle.answers.specs.declared.Answer.{Answer}
use Rattle.answers.specs.declared.Reading.{Reading}
use Rattle.answers.specs.Readings.{reading_of}
use Rattle.wire.specs.declared.Flow.{Flow}
use Rattle.wire.specs.Segment.{Segment}
use Rattle.wire.specs.Packet.{header, bit}
use Rattle.wire.specs.Type9.{flags, is_s, is_e, segment_of}
use Rattle.wire.proofs.Fields.{begins_is, ends_is, from_field, before_data}
use Rattle.contexts.specs.declared.StreamContext.{StreamContext}
use Rattle.contexts.specs.State.{State, with_stream, closed_stream, open_stream, stream_contexts}
use Rattle.stream_rooms.specs.Placing.{Joined, joining, placed, data_of}
use Rattle.stream_rooms.specs.Inside.{Delivering, Fits}

-- past the last context nothing is put
pub put_nowhere : (s : State) (n : ℕ) → length s.streams ≡ stream_contexts → stream_contexts ≤ n → s ≡ with_stream s n closed_stream
put_nowhere s n z h =
    ap (λ (l : List StreamContext). record { setup = s.setup; streams = l; messages = s.messages })
    (sym (set_out s.streams n closed_stream (omega arith)))

-- what is said, by the parts of the reading
pub joined_told : {answer : Result Answer Refusal} {dropped : Bool} {t : Reading Refusal} {state : State} {memory : List ℕ} {j : Joined} → t ≡ reading_of answer dropped 0
    → joining (said answer) dropped state memory ≡ j → (joining (said t.answer) t.dropped state memory ≡ j) × (t.response ≡ 0)
joined_told e k = rw e (k, refl)

-- the store and the context make the placing
module _ (s : State) (memory after p : List ℕ) (g : Segment) (n base stream count : ℕ) (f : Fits s g n base count)
    (m : after ≡ written memory (n * s.setup.room + base) (data_of p g)) (gave : Bool) where
  pub ended : {flow : Flow} {says : Said} {dropped : Bool} {state : State} → g.ends ≡ true → flow ≡ g.flow → Delivering s n flow stream (base + count) gave says dropped state
      → joining says dropped state after ≡ placed s memory p g n base stream gave
  unfolding placed
  ended e w k = rw (k.answer, k.drop, k.state, m, w, f.size, e)

  pub kept : {flow : Flow} {state : State} → g.ends ≡ false → flow ≡ g.flow → state ≡ with_stream s n (open_stream flow stream (base + count))
      → joining held gave state after ≡ placed s memory p g n base stream gave
  unfolding placed
  kept e w k = rw (k, m, w, f.size, e)

-- the same delivery by another name of its streamID
pub of_stream_lem : {s : State} {n i j total : ℕ} {flow : Flow} {gave dropped : Bool} {says : Said} {state : State}
    → i ≡ j → Delivering s n flow i total gave says dropped state → Delivering s n flow j total gave says dropped state
of_stream_lem {s} {n} {i} {j} {total} {flow} {gave} {dropped} {says} {state} e d = subst (λ (k : ℕ). Delivering s n flow k total gave says dropped state) e d

-- E, as the code has it
pub ends_by : (ids : ℕ) (p : List ℕ) {bits : ℕ} {r b : Bool} → bits ≡ flags ids p → r ≡ bit bits 64 → r ≡ b → (segment_of ids p).ends ≡ b
ends_by ids p w t e = ends_is ids p ∙ rw (← w) (sym t ∙ e)

-- a start or single has a field: the two bytes before its data are the streamID
module _ (ids : ℕ) (p : List ℕ) (t : (segment_of ids p).begins ≡ true) where
  fielded : (is_s ids p || is_e ids p) ≡ true
  fielded = rw (sym (begins_is ids p) ∙ t)

  pub start-from : (segment_of ids p).from ≡ header ids + 4
  start-from = from_field ids p fielded

  pub start_field : {stream from : ℕ} → from ≡ (segment_of ids p).from → stream ≡ word p (from - 2) → stream ≡ (segment_of ids p).field
  start_field f e = e ∙ before_data ids p fielded f

-- from its beginning
module _ (s : State) (memory after p : List ℕ) (g : Segment) (n count : ℕ) (f : Fits s g n 0 count)
    (m : after ≡ written memory (n * s.setup.room + 0) (data_of p g)) (gave : Bool) {stream : ℕ} (w : stream ≡ g.field) where
  all : count ≡ 0 + count
  all = sym (zero-add count)

  pub single : {flow : Flow} {says : Said} {dropped : Bool} {state : State} → g.ends ≡ true → flow ≡ g.flow → Delivering s n flow stream count gave says dropped state
      → joining says dropped state after ≡ placed s memory p g n 0 g.field gave
  single {flow} {says} {dropped} {state} e v k = ended s memory after p g n 0 g.field count f m gave e v (subst₂ (λ (i t : ℕ). Delivering s n flow i t gave says dropped state) w all k)

  pub start : {flow : Flow} {state : State} → g.ends ≡ false → flow ≡ g.flow → state ≡ with_stream s n (open_stream flow stream count)
      → joining held gave state after ≡ placed s memory p g n 0 g.field gave
  start {flow} {state} e v k = kept s memory after p g n 0 g.field count f m gave e v (subst₂ (λ (i t : ℕ). state ≡ with_stream s n (open_stream flow i t)) w all k)

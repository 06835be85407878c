-- Laws of a type 9 step: what each way through the code leaves is what the definition says.
use Prim.Native.Nat.{ℕ, ◌≤◌, ◌<◌, ◌+◌, ◌-◌, ◌%◌}
use mathlib.Core.Path.{◌≡◌, ap, ap₂, sym, ◌∙◌}
use mathlib.Core.List.{List}
use mathlib.Core.Bool.{Bool, true, false, cond, not, ◌||◌, ◌&&◌, or-true}
use native.Mathlib.Omega.{arith}
use lib.Dec.{eqb, ltb}
use lib.ListN.{length}
use Rattle.std.specs.Prelude.{Option, Some, None}
use borrow.Author.Tests.{lt-ltb, le-ltb, eqb-false, eqb-true, ltb-false, not-false}
use Rattle.lists.specs.First.{IsFound}
use Rattle.lists.proofs.First.{first_le, first_passes}
use Rattle.lists.proofs.Tests.{neither, ◌and◌}
use Rattle.tables.specs.Refusals.{none}
use Rattle.tables.proofs.Cases.{by_row, by_end, whichever}
use Rattle.answers.specs.Answers.{Said, refused}
use Rattle.wire.specs.Segment.{Segment}
use Rattle.lists.specs.Bytes.{word}
use Rattle.wire.specs.Packet.{header, bit}
use Rattle.wire.specs.Type9.{flags, is_s, is_e, segment_of}
use Rattle.wire.proofs.Fields.{begins_is, ends_is, odd_is, pad_is, raw_is, from_field, before_data}
use Rattle.sizes.specs.Sizes.{data_length, without_pad, pdu_length}
use Rattle.contexts.specs.State.{State, stream_contexts, stream_in, closed_stream, is_of_flow, flow_context, free_stream}
use Rattle.contexts.proofs.Flows.{of_flow_lem}
use Rattle.refusal19.specs.Refusal19.{named_by_19}
use Rattle.refusal19.proofs.Good.{good, found_holds}
use Rattle.stream_rooms.specs.Placing.{Joined, joining, placed}
use Rattle.stream_rooms.specs.Inside.{Closing, Fits}
use Rattle.streams.specs.Rows.{found_for, total, missized, not_open, passes_room, none_free, length_differs, stream_rows}
use Rattle.streams.specs.Joining.{accepted, refused_closing, refused_staying, stream_refusing, stepped}
use Rattle.streams.specs.Inside.{Passed}
use Rattle.rules.specs.Segments.{malformed, wrong_form, wrong_o, wrong_length, wrong_size}

-- the context found is one, or stream_contexts
pub found_le : (s : State) (g : Segment) → length s.streams ≡ stream_contexts → found_for s g ≤ stream_contexts
unfolding flow_context
found_le s g z = rw (← z) (first_le _ s.streams)

-- data within the packet
pub data_le : (g : Segment) → data_length g ≤ g.raw
unfolding data_length
data_le g = go g.pad
  where
    go : (b : Bool) → cond b (g.raw - 1) g.raw ≤ g.raw
    go true = omega arith
    go false = omega arith

-- row 6 passed: there are data
pub some_data : (g : Segment) → malformed g ≡ false → 0 < g.raw
unfolding malformed wrong_form
some_data g e =
    let a = neither (eqb g.raw 0 || eqb (g.raw % 2) 1) (wrong_o g.raw g.odd) e in
    let b = eqb-false g.raw 0 (neither (eqb g.raw 0) (eqb (g.raw % 2) 1) a.0).0 in
    omega arith

-- row 7 passed: at most MTU bytes
pub size-le : (end : Bool) (n mtu : ℕ) → wrong_size end n mtu ≡ false → n ≤ mtu
size-le true n mtu e = ltb-false mtu n e
size-le false n mtu e = omega (arith, eqb-true n mtu (not-false (eqb n mtu) e))

-- a start or single fits any room
pub start_fits : (s : State) (g : Segment) {found : Option ℕ} {count n : ℕ} → named_by_19 s ≡ false → Passed s g found count → n < stream_contexts → Fits s g n 0 count
start_fits s g e q h = record { context = h; size = q.size; within = q.within; behind = omega (arith, q.small, (good s e).holds) }

-- what the flow's context holds is at most R, and the data at most the MTU
pub total_le : (s : State) (g : Segment) {n count held : ℕ} → named_by_19 s ≡ false → Passed s g (Some n) count → length s.streams ≡ stream_contexts
    → held ≡ (stream_in s n).held → held + count ≤ 65792
total_le s g e q z own =
    let k = good s e in
    let inside : found_for s g < length s.streams = rw (← q.flow.0, z) q.flow.1 in
    omega (arith, own, ap (λ (i : ℕ). (stream_in s i).held) q.flow.0, (found_holds s g.flow k inside).1, k.room, q.small, k.most)

-- the context found is of the packet's flow
pub own_flow : (s : State) (g : Segment) {n : ℕ} → IsFound stream_contexts (found_for s g) (Some n) → length s.streams ≡ stream_contexts → (stream_in s n).flow ≡ g.flow
unfolding flow_context
own_flow s g f z =
    let inside : found_for s g < length s.streams = rw (← f.0, z) f.1 in
    ap (λ (i : ℕ). (stream_in s i).flow) f.0 ∙ of_flow_lem g.flow _ (first_passes (is_of_flow g.flow) s.streams closed_stream inside)

-- a closing refusal
closing : (s : State) (memory : List ℕ) (g : Segment) {found number : ℕ} {says : Said} {dropped : Bool} {state : State}
    → found ≡ found_for s g → Closing s found number says dropped state → joining says dropped state memory ≡ refused_closing s memory g number
unfolding refused_closing
closing s memory g f c = rw (c.answer, c.drop, c.state, f)

-- ---- the tests of a continuation or end by what the code has: the flow's context and R
module _ (s : State) (g : Segment) (t : g.begins ≡ false) {n count : ℕ} (q : Passed s g (Some n) count) where
  open_flow : not_open s g ≡ false
  unfolding not_open
  open_flow = rw (t, ← q.flow.0, lt-ltb n stream_contexts q.flow.1)

  module _ {held : ℕ} (e : held ≡ (stream_in s n).held) where
    total-is : total s g ≡ held + count
    total-is = ap (λ (b : Bool). cond b 0 (stream_in s (found_for s g)).held + data_length g) t ∙ rw (← q.flow.0, ← e, ← q.size)

    passes : {room : ℕ} → room ≡ s.setup.room → passes_room s g ≡ ltb room (held + count)
    unfolding passes_room
    passes r = ap₂ ltb (sym r) total-is

    differs : length_differs s g ≡ wrong_length g (held + count)
    unfolding length_differs
    differs = ap₂ (λ (b : Bool) (n : ℕ). not b && wrong_length g n) t total-is

-- row 10 is for starts and singles
going_on : (s : State) (g : Segment) → g.begins ≡ false → none_free s g ≡ false
unfolding none_free
going_on s g t = rw t

-- ---- rows 8, 9 and 11 do not hold of a start or single: 7 bounds its data by the MTU, and 19 the MTU by R
module _ (s : State) (g : Segment) (t : g.begins ≡ true) where
  started_open : not_open s g ≡ false
  unfolding not_open
  started_open = rw t

  started_length : length_differs s g ≡ false
  unfolding length_differs
  started_length = ap (λ (b : Bool). not b && wrong_length g (total s g)) t

  started_within : named_by_19 s ≡ false → missized s g ≡ false → passes_room s g ≡ false
  unfolding passes_room missized
  started_within fine e =
      let alone : total s g ≡ 0 + data_length g = rw t in
      le-ltb s.setup.room (total s g) (omega (arith, alone, size-le g.ends (data_length g) s.setup.mtu e, (good s fine).holds))

-- ---- row 7 by what the code has: the bytes of data and the MTU
module _ (s : State) (g : Segment) {count mtu : ℕ} (z : count ≡ data_length g) (m : mtu ≡ s.setup.mtu) where
  sizes : {b : Bool} → wrong_size g.ends count mtu ≡ b → missized s g ≡ b
  unfolding missized
  sizes e = rw (← z, ← m) e

  pub passed : {found : Option ℕ} → malformed g ≡ false → IsFound stream_contexts (found_for s g) found → wrong_size g.ends count mtu ≡ false → Passed s g found count
  passed d f e = record { row_6 = d; row_7 = sizes e; flow = f; size = z; within = rw z (data_le g); small = rw (← m) (size-le g.ends count mtu e) }

module _ (s : State) (memory p : List ℕ) (g : Segment) where
  -- the rows, one by one
  pub by_rows : stepped s memory p g
      ≡ cond (malformed g) (refused_closing s memory g 6)
      (cond (missized s g) (refused_closing s memory g 7)
      (cond (not_open s g) (refused_staying s memory 8)
      (cond (passes_room s g) (refused_closing s memory g 9)
      (cond (none_free s g) (refused_staying s memory 10)
      (cond (length_differs s g) (refused_closing s memory g 11)
      (accepted s memory p g))))))
  unfolding stepped stream_rows
  by_rows = simp (by_row, by_end)

  -- what holds of every refusal, and of what is accepted once every row has failed, holds of the step
  pub step_cases : (P : Joined → Type 0) → ((number : ℕ) → P (refused_staying s memory number)) → ((number : ℕ) → P (refused_closing s memory g number))
      → (none (stream_rows s g) → P (accepted s memory p g)) → P (stepped s memory p g)
  unfolding stepped stream_rows
  step_cases P stays closes accepts =
      whichever (stream_refusing s memory g) _ P (stream_rows s g) (closes and closes and stays and closes and stays and closes and tt) accepts

  -- ---- rows 6 and 7
  pub step-malformed : {found : ℕ} {says : Said} {dropped : Bool} {state : State} → found ≡ found_for s g → malformed g ≡ true → Closing s found 6 says dropped state
      → joining says dropped state memory ≡ stepped s memory p g
  step-malformed f d k = closing s memory g f k ∙ sym (by_rows ∙ rw d)

  pub step-missized : {found count mtu : ℕ} {says : Said} {dropped : Bool} {state : State} → malformed g ≡ false → count ≡ data_length g → mtu ≡ s.setup.mtu → found ≡ found_for s g
      → wrong_size g.ends count mtu ≡ true → Closing s found 7 says dropped state → joining says dropped state memory ≡ stepped s memory p g
  step-missized d z m f e k = closing s memory g f k ∙ sym (by_rows ∙ rw (d, sizes s g z m e))

  -- ---- a start or single
  module _ (t : g.begins ≡ true) {found : Option ℕ} {count : ℕ} (q : Passed s g found count) (fine : named_by_19 s ≡ false) where
    started : stepped s memory p g ≡ cond (none_free s g) (refused_staying s memory 10) (accepted s memory p g)
    started = by_rows ∙ rw (q.row_6, q.row_7, started_open s g t, started_within s g t fine q.row_7, started_length s g t)

    pub begin_own : {n : ℕ} {j : Joined} → found ≡ Some n → j ≡ placed s memory p g n 0 g.field true → j ≡ stepped s memory p g
    unfolding none_free accepted
    begin_own {n} a e =
        let f = rw a at q.flow in
        e ∙ sym (started ∙ rw (t, ← f.0, lt-ltb n stream_contexts f.1))

    module _ (a : found ≡ None) where
      none_open : found_for s g ≡ stream_contexts
      none_open = sym (rw a at q.flow).0

      pub begin_free : {n : ℕ} {j : Joined} → IsFound stream_contexts (free_stream s) (Some n) → j ≡ placed s memory p g n 0 g.field false → j ≡ stepped s memory p g
      unfolding none_free accepted
      begin_free {n} f e = e ∙ sym (started ∙ rw (t, none_open, ← f.0, lt-ltb n stream_contexts f.1))

      pub begin_none : IsFound stream_contexts (free_stream s) None → joining (refused 10) false s memory ≡ stepped s memory p g
      unfolding none_free refused_staying
      begin_none f = sym (started ∙ rw (t, none_open, ← f.0))

  -- ---- a continuation or end
  module _ (t : g.begins ≡ false) {found : Option ℕ} {count : ℕ} (q : Passed s g found count) where
    continued : stepped s memory p g
        ≡ cond (not_open s g) (refused_staying s memory 8)
        (cond (passes_room s g) (refused_closing s memory g 9)
        (cond (length_differs s g) (refused_closing s memory g 11)
        (accepted s memory p g)))
    continued = by_rows ∙ rw (q.row_6, q.row_7, going_on s g t)

    pub go_closed : found ≡ None → joining (refused 8) false s memory ≡ stepped s memory p g
    unfolding not_open refused_staying
    go_closed a =
        let f = rw a at q.flow in
        sym (continued ∙ rw (t, ← f.0))

  -- in the flow's own context
  module _ (t : g.begins ≡ false) {n count : ℕ} (q : Passed s g (Some n) count) {held room : ℕ} (e : held ≡ (stream_in s n).held) (r : room ≡ s.setup.room) where
    pub go_passes : {says : Said} {dropped : Bool} {state : State} → room < held + count → Closing s n 9 says dropped state → joining says dropped state memory ≡ stepped s memory p g
    go_passes h k = closing s memory g q.flow.0 k ∙ sym (continued t q ∙ rw (open_flow s g t q, passes s g t q e r, lt-ltb room (held + count) h))

    module _ (h : held + count ≤ room) where
      within : stepped s memory p g ≡ cond (wrong_length g (held + count)) (refused_closing s memory g 11) (accepted s memory p g)
      within = continued t q ∙ rw (open_flow s g t q, passes s g t q e r, le-ltb room (held + count) h, differs s g t q e)

      pub go_differs : {says : Said} {dropped : Bool} {state : State} → wrong_length g (held + count) ≡ true → Closing s n 11 says dropped state
          → joining says dropped state memory ≡ stepped s memory p g
      go_differs d k = closing s memory g q.flow.0 k ∙ sym (within ∙ rw d)

      pub go_placed : {j : Joined} → wrong_length g (held + count) ≡ false → j ≡ placed s memory p g n held (stream_in s n).stream false → j ≡ stepped s memory p g
      unfolding accepted
      go_placed d k = k ∙ sym (within ∙ rw d (rw (t, ← q.flow.0, lt-ltb n stream_contexts q.flow.1, ← e)))

-- ---- rows 6 to 8 by what the code has read of the packet

module _ (ids : ℕ) (p : List ℕ) {bits from raw : ℕ} (w : bits ≡ flags ids p) (f : from ≡ (segment_of ids p).from) (z : raw ≡ length p - from) where
  pub raw_by : raw ≡ (segment_of ids p).raw
  raw_by = z ∙ rw f (sym (raw_is ids p))

  pub malformed_by : {r b : Bool} → r ≡ wrong_form raw (bit bits 2) → r ≡ b → malformed (segment_of ids p) ≡ b
  unfolding malformed
  malformed_by t e = rw (odd_is ids p, ← raw_by, ← w) (sym t ∙ e)

  pub data_by : {count : ℕ} → count ≡ without_pad raw (bit bits 1) → count ≡ data_length (segment_of ids p)
  unfolding data_length
  data_by t = t ∙ rw (pad_is ids p, ← raw_by, ← w)

module _ (ids : ℕ) (p : List ℕ) {bits : ℕ} (w : bits ≡ flags ids p) where
  pub begins_by : {r b : Bool} → r ≡ bit bits 128 → r ≡ b → (segment_of ids p).begins ≡ b
  begins_by t e = begins_is ids p ∙ rw (← w) (sym t ∙ e)

  pub size_by : (n mtu : ℕ) {r b : Bool} → r ≡ wrong_size (bit bits 64) n mtu → r ≡ b → wrong_size (segment_of ids p).ends n mtu ≡ b
  size_by n mtu t e = rw (ends_is ids p, ← w) (sym t ∙ e)

-- an end has a field, and by it its length differs or not
module _ (ids : ℕ) (p : List ℕ) (e : (segment_of ids p).ends ≡ true) where
  fielded : (is_s ids p || is_e ids p) ≡ true
  fielded = rw (sym (ends_is ids p) ∙ e) (or-true (is_s ids p))

  pub end-from : (segment_of ids p).from ≡ header ids + 4
  end-from = from_field ids p fielded

  pub length_by : (n : ℕ) {from field size : ℕ} {b : Bool} → from ≡ (segment_of ids p).from → field ≡ word p (from - 2) → size ≡ pdu_length field → not (eqb n size) ≡ b
      → wrong_length (segment_of ids p) n ≡ b
  length_by n f w z t = rw (e, ← before_data ids p fielded f, ← w, ← z) t

-- a continuation has none
pub no_length : (g : Segment) (n : ℕ) → g.ends ≡ false → wrong_length g n ≡ false
no_length g n e = rw e

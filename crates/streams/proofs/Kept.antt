-- A type 9 packet leaves a state that 19 does not name, where it found one.
use Prim.Native.Nat.{ℕ, ◌<◌, ◌-◌, ◌%◌}
use mathlib.Core.Path.{◌≡◌}
use mathlib.Core.List.{List}
use mathlib.Core.Bool.{Bool, true, false, cond, ◌||◌}
use native.Mathlib.Omega.{arith}
use lib.Dec.{eqb}
use borrow.Author.Tests.{eqb-false, ltb-false}
use Rattle.wire.specs.Segment.{Segment}
use Rattle.sizes.specs.Sizes.{data_length}
use Rattle.contexts.specs.declared.StreamContext.{StreamContext}
use Rattle.contexts.specs.State.{State, closed_stream, open_stream}
use Rattle.refusal19.specs.Refusal19.{bad_stream, named_by_19}
use Rattle.lists.proofs.Tests.{neither}
use Rattle.refusal19.proofs.Kept.{closed_stream_lem, held_stream, stream_kept}
use Rattle.stream_rooms.specs.Placing.{placed}
use Rattle.streams.specs.Rows.{passes_room, total}
use Rattle.streams.specs.Joining.{accepted, refused_closing, context_for, stream_id}
use Rattle.rules.specs.Segments.{malformed, wrong_form, wrong_o}

-- row 6 passed: there is at least one byte besides a pad
pub data_there : (g : Segment) → malformed g ≡ false → 0 < data_length g
unfolding malformed wrong_form data_length
data_there g e =
    let a = neither (eqb g.raw 0 || eqb (g.raw % 2) 1) (wrong_o g.raw g.odd) e in
    let b = neither (eqb g.raw 0) (eqb (g.raw % 2) 1) a.0 in
    go g.pad (eqb-false g.raw 0 b.0) (eqb-false (g.raw % 2) 1 b.1)
  where
    go : (b : Bool) → (g.raw ≡ 0 → ⊥) → (g.raw % 2 ≡ 1 → ⊥) → 0 < cond b (g.raw - 1) g.raw
    go true z o = omega arith
    go false z o = omega arith

module _ (s : State) (memory p : List ℕ) (g : Segment) (fine : named_by_19 s ≡ false) where
  pub accepted-kept : malformed g ≡ false → passes_room s g ≡ false → named_by_19 (accepted s memory p g).state ≡ false
  unfolding accepted placed passes_room
  accepted-kept a b =
      let kept : StreamContext = open_stream g.flow (stream_id s g) (total s g) in
      stream_kept s (context_for s g) _ fine (go g.ends kept (held_stream s.setup.room kept (omega (arith, data_there g a)) (ltb-false s.setup.room (total s g) b)))
    where
      go : (b : Bool) (c : StreamContext) → bad_stream s.setup.room c ≡ false → bad_stream s.setup.room (cond b closed_stream c) ≡ false
      go true c h = closed_stream_lem s.setup.room
      go false c h = h

  pub closing-kept : (number : ℕ) → named_by_19 (refused_closing s memory g number).state ≡ false
  unfolding refused_closing
  closing-kept number = stream_kept s _ closed_stream fine (closed_stream_lem s.setup.room)

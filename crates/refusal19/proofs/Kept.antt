-- A state that 19 does not name stays so where a good context, or a closed one, is put into it.
use Prim.Native.Nat.{ℕ, ◌≤◌, ◌<◌, ◌+◌, ◌^◌}
use mathlib.Core.Path.{◌≡◌, refl, ap, ◌∙◌}
use mathlib.Core.List.{List}
use mathlib.Core.Bool.{Bool, false, not, ◌||◌, and-false}
use native.Mathlib.Omega.{arith}
use native.Mathlib.Decide.{ℕ_discrete}
use lib.ListN.{length, get_or, set, length-set}
use lib.Seq.{get_or-set_same, get_or-set_other}
use borrow.Author.Tests.{ne_eqb, le-ltb, lt-leb}
use Rattle.lists.specs.First.{first_of, any}
use Rattle.lists.proofs.First.{none_passes, all_fail}
use Rattle.sizes.specs.Sizes.{bad_mtu, bytes_of}
use Rattle.contexts.specs.declared.StreamContext.{StreamContext}
use Rattle.contexts.specs.declared.MessageContext.{MessageContext}
use Rattle.wire.specs.declared.Setup.{Setup}
use Rattle.contexts.specs.State.{State, fresh, with_stream, with_message, closed_stream, closed_message, is_free_stream, is_free_message}
use Rattle.marks.specs.Marks.{all_marked}
use Rattle.refusal19.specs.Refusal19.{bad_room, bad_stream, bad_last, bad_marks, bad_message, named_by_19}
use Rattle.lists.proofs.Tests.{neither}

-- a list none of which passes, with one that does not in place n
module _ {A : Type 0} (p : A → Bool) (d : A) (l : List A) (n : ℕ) (a : A) where
  none-put : any p l ≡ false → p a ≡ false → any p (set l n a) ≡ false
  none-put e f = all_fail p (set l n a) d each
    where
      at : (i : ℕ) → i < length l → Dec (i ≡ n) → p (get_or (set l n a) i d) ≡ false
      at i h (yes q) = ap (λ (k : ℕ). p (get_or (set l n a) k d)) q ∙ (ap p (get_or-set_same l n a d (omega arith)) ∙ f)
      at i h (no q) = ap p (get_or-set_other l n i a d q) ∙ none_passes p l d e i h

      each : (i : ℕ) → i < length (set l n a) → p (get_or (set l n a) i d) ≡ false
      each i h = at i (rw (← length-set l n a) h) (ℕ_discrete i n)

-- ---- contexts that 19 does not name
pub closed_stream_lem : (room : ℕ) → bad_stream room closed_stream ≡ false
unfolding bad_stream is_free_stream
closed_stream_lem room = refl

pub closed_message_lem : bad_message closed_message ≡ false
unfolding bad_message is_free_message
closed_message_lem = refl

pub held_stream : (room : ℕ) (c : StreamContext) → 0 < c.held → c.held ≤ room → bad_stream room c ≡ false
unfolding bad_stream
held_stream room c a b = rw (ne_eqb c.held 0 (λ e. omega arith), le-ltb room c.held b) (and-false (not (is_free_stream c)))

pub kept_message : (c : MessageContext) → (bytes_of c.ssize ≡ 0 → ⊥) → (c.msglen ≡ 0 → ⊥) → c.msglen ≤ 15 → c.marks < 2 ^ (c.msglen + 1) → (c.marks ≡ 0 → ⊥)
    → all_marked c.marks (c.msglen + 1) ≡ false → bad_last c ≡ false → bad_message c ≡ false
unfolding bad_message bad_marks
kept_message c a b d e f g h =
    rw (ne_eqb (bytes_of c.ssize) 0 a, ne_eqb c.msglen 0 b, le-ltb 15 c.msglen d, lt-leb (2 ^ (c.msglen + 1)) c.marks e, ne_eqb c.marks 0 f, g, h)
    (and-false (not (is_free_message c)))

-- ---- put into a state
pub stream_kept : (s : State) (n : ℕ) (c : StreamContext) → named_by_19 s ≡ false → bad_stream s.setup.room c ≡ false → named_by_19 (with_stream s n c) ≡ false
unfolding named_by_19
stream_kept s n c e f =
    let a = neither (bad_mtu s.setup.mtu || bad_room s.setup.mtu s.setup.room || any (bad_stream s.setup.room) s.streams) (any bad_message s.messages) e in
    let b = neither (bad_mtu s.setup.mtu || bad_room s.setup.mtu s.setup.room) (any (bad_stream s.setup.room) s.streams) a.0 in
    rw (b.0, a.1, none-put (bad_stream s.setup.room) closed_stream s.streams n c b.1 f)

pub message_kept : (s : State) (n : ℕ) (c : MessageContext) → named_by_19 s ≡ false → bad_message c ≡ false → named_by_19 (with_message s n c) ≡ false
unfolding named_by_19
message_kept s n c e f =
    let a = neither (bad_mtu s.setup.mtu || bad_room s.setup.mtu s.setup.room || any (bad_stream s.setup.room) s.streams) (any bad_message s.messages) e in
    rw (a.0, none-put bad_message closed_message s.messages n c a.1 f)

-- a state as setup makes it is good
pub fresh-good : (setup : Setup) → bad_mtu setup.mtu ≡ false → bad_room setup.mtu setup.room ≡ false → named_by_19 (fresh setup) ≡ false
unfolding named_by_19 any first_of bad_stream bad_message is_free_stream is_free_message
fresh-good setup m r = rw (m, r)

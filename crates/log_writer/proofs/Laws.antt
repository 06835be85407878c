-- The three ways out of writing a record, by the table: the packet is too long, the output too short, or the record is written.
-- Its length and, behind it, its packet are two stores, which make one.
use Prim.Native.Nat.{ℕ, ◌+◌, ◌<◌, ◌≤◌}
use mathlib.Core.Path.{◌≡◌, refl, ap, sym, ◌∙◌}
use mathlib.Core.List.{List, [], ◌∷◌}
use mathlib.Core.Bool.{Bool, true, false, cond}
use native.Mathlib.Omega.{arith}
use native.Mathlib.Nat.{zero-add}
use lib.Dec.{ltb}
use lib.ListN.{length, length-append}
use borrow.Author.Tests.{lt-ltb, le-ltb}
use Rattle.lists.specs.Bytes.{written}
use Rattle.lists.proofs.Written.{written_behind}
use Rattle.answers.specs.Answers.{wrote, write_refused}
use Rattle.tables.specs.Refusals.{row, all, verdict}
use Rattle.writing.specs.Writer.{wrote_of, wrote_by, fitting}
use Rattle.writing.proofs.Nested.{short, room}
use Rattle.log_records.specs.Written.{length_bytes, written_record}
use Rattle.log_writer.specs.Writing.{longest_recorded, record_table, recording}

-- the table in the nesting of the code
nested : (out packet : List ℕ)
    → recording out packet ≡ cond (ltb longest_recorded (length packet)) (wrote_of (write_refused 12) out) (fitting out (written_record packet))
unfolding recording record_table verdict
nested out packet = go (ltb longest_recorded (length packet))
  where
    go : (long : Bool)
        → wrote_by out (written_record packet) (verdict (row 12 long all ∷ row 16 (ltb (length out) (length (written_record packet))) all ∷ []))
        ≡ cond long (wrote_of (write_refused 12) out) (fitting out (written_record packet))
    go true = refl
    go false = refl

-- 12
pub too_long : (out packet : List ℕ) → longest_recorded < length packet → wrote_of (write_refused 12) out ≡ recording out packet
too_long out packet h = rw (nested out packet, lt-ltb longest_recorded (length packet) h)

-- a packet that a record can hold, whose length takes `front` bytes
module _ (out packet : List ℕ) (front : ℕ) (fits : length packet ≤ longest_recorded) (e : front ≡ length (length_bytes (length packet))) where
  by_room : recording out packet ≡ fitting out (written_record packet)
  by_room = rw (nested out packet, le-ltb longest_recorded (length packet) fits)

  sized : length (written_record packet) ≡ front + length packet
  sized = rw e (length-append (length_bytes (length packet)) packet)

  -- 16
  pub no_room : length out < front + length packet → wrote_of (write_refused 16) out ≡ recording out packet
  no_room h = short out (written_record packet) (front + length packet) sized h ∙ sym by_room

  -- the two stores
  both : (out₁ out₂ : List ℕ) → front + length packet ≤ length out → out₁ ≡ written out 0 (length_bytes (length packet)) → out₂ ≡ written out₁ front packet
      → out₂ ≡ written out 0 (written_record packet)
  both out₁ out₂ enough e₁ e₂ =
      let bytes : List ℕ = length_bytes (length packet) in
      e₂
      ∙ (ap (λ (l : List ℕ). written l front packet) e₁
      ∙ (ap (λ (i : ℕ). written (written out 0 bytes) i packet) (e ∙ sym (zero-add (length bytes))) ∙ written_behind out bytes packet 0 (omega arith)))

  -- written
  pub whole : (groups out₁ out₂ : List ℕ) → front + length packet ≤ length out → groups ≡ length_bytes (length packet) → out₁ ≡ written out 0 groups → out₂ ≡ written out₁ front packet
      → wrote_of (wrote (front + length packet)) out₂ ≡ recording out packet
  whole groups out₁ out₂ enough g e₁ e₂ =
      room out (written_record packet) (front + length packet) sized out₂ enough (both out₁ out₂ enough (e₁ ∙ ap (written out 0) g) e₂) ∙ sym by_room

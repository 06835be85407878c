-- A packet that the writer says it has written fits into the output: row 16 refuses any other.
use Prim.Native.Nat.{ℕ, ◌≤◌}
use mathlib.Core.Path.{◌≡◌, refl, ap, sym, ◌∙◌}
use mathlib.Core.List.{List}
use lib.ListN.{length}
use native.Mathlib.Omega.{arith}
use borrow.Author.Tests.{ltb-false}
use Rattle.std.specs.Prelude.{Result, Ok}
use Rattle.refusals.specs.declared.Refusal.{Refusal}
use Rattle.answers.specs.Answers.{wrote, said_of_writer}
use Rattle.tables.specs.Refusals.{Verdict, refuse, accept, verdict, none}
use Rattle.tables.proofs.Exactly.{none-held}
use Rattle.cutting.specs.declared.Heading.{Heading}
use Rattle.cutting.specs.Cutting.{packet_of}
use Rattle.writing.specs.Writer.{Wrote, wrote_by, writer_table, writing, WritePromise}

pub fits : (out : List ℕ) (h : Heading) (mtu : ℕ) (pdu : List ℕ) (k : ℕ) (r : Result ℕ Refusal) (after : List ℕ) (size : ℕ)
    → WritePromise out h mtu pdu k r after → r ≡ Ok size
    → size ≤ length out
unfolding writing writer_table none
fits out h mtu pdu k r after size promised is = go (verdict (writer_table out h mtu pdu k)) refl (sym (ap said_of_writer is) ∙ ap (λ (w : Wrote). w.says) promised)
  where
    go : (v : Verdict) → verdict (writer_table out h mtu pdu k) ≡ v → wrote size ≡ (wrote_by out (packet_of h mtu pdu k) v).says → size ≤ length out
    go (refuse number leaves) decides says = absurd (let z : ◌≡◌ {A = ℕ} 0 1 = cc in omega arith)
    go accept decides says =
        let same : size ≡ length (packet_of h mtu pdu k) = cc in
        let room = ltb-false (length out) (length (packet_of h mtu pdu k)) (none-held (writer_table out h mtu pdu k) decides).1.1.1.1.1.0 in
        omega (arith, same, room)

-- What a packet is by the number that its head answers: a refusal's is under 9, the types are 9 and 11.
use Prim.Native.Nat.{ℕ, ◌<◌}
use mathlib.Core.Path.{◌≡◌, refl, ◌∙◌}
use mathlib.Core.List.{List}
use mathlib.Core.Bool.{cond}
use native.Mathlib.Omega.{arith}
use lib.Dec.{eqb, ltb}
use borrow.Author.Tests.{eqb-true, lt-ltb}
use Rattle.lists.proofs.Tests.{by_test, ◌and◌}
use Rattle.tables.specs.Refusals.{Row, Leaves, Verdict, refuse, accept, verdict}
use Rattle.tables.proofs.Exactly.{none-held}
use Rattle.tables.proofs.Numbers.{every_number}
use Rattle.wire.specs.declared.Setup.{Setup}
use Rattle.wire.specs.Packet.{packet_type, ids_of}
use Rattle.wire.specs.Type9.{segment_of}
use Rattle.wire.specs.Type11.{message_of}
use Rattle.wire.specs.Head.{is9, head_rows}
use Rattle.wire.specs.Parsed.{Parsed, Refused, Stream, Message, parsed_by, parsed}
use Rattle.wire.specs.Inside.{headed, headed_by}
use Rattle.wire.proofs.HeadLaws.{other_type}

module _ (setup : Setup) (p : List ℕ) where
  abbrev rows_of : List Row
  rows_of = head_rows setup.device (ids_of setup) p

  small : (number : ℕ) (leaves : Leaves) → verdict rows_of ≡ refuse number leaves → number < 9
  unfolding head_rows
  small number leaves =
      every_number (λ (n : ℕ). n < 9) rows_of number leaves
      (omega arith and omega arith and omega arith and omega arith and omega arith and omega arith and omega arith and tt)

  abbrev pub said_by_number : ℕ → Parsed
  said_by_number n = cond (ltb n 9) (Refused n) (cond (eqb n 9) (Stream (segment_of (ids_of setup) p)) (Message (message_of (ids_of setup) p)))

  pub by_number : (n : ℕ) → n ≡ headed setup.device (ids_of setup) p → parsed setup p ≡ said_by_number n
  unfolding headed parsed
  by_number n e = go (verdict rows_of) refl e
    where
      go : (v : Verdict) → verdict rows_of ≡ v → n ≡ headed_by p v → parsed_by (ids_of setup) p v ≡ said_by_number n
      go (refuse number leaves) r e = rw (e, lt-ltb number 9 (small number leaves r))
      go accept r e =
          by_test (is9 p)
          (λ t. let nine : n ≡ 9 = e ∙ eqb-true (packet_type p) 9 t in rw (nine, t))
          (λ t. let eleven : n ≡ 11 = e ∙ eqb-true (packet_type p) 11 (other_type (ids_of setup) p setup.device (none-held rows_of r) t) in rw (eleven, t))

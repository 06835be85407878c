-- A written log reads back as its records.
use Prim.Native.Nat.{ℕ, zero, suc, ◌+◌, ◌*◌, ◌/◌, ◌%◌, ◌≤◌, ◌<◌}
use mathlib.Core.Path.{◌≡◌, refl, ap, sym, ◌∙◌}
use mathlib.Core.List.{List, [], ◌∷◌, ◌++◌, append_assoc, append-nil}
use mathlib.Core.Bool.{Bool, true, false, cond}
use native.Mathlib.Omega.{arith}
use native.Mathlib.Nat.{div-add-mod', mod-lt, add-zero}
use lib.ListN.{length, take, drop, length-append}
use lib.Seq.{get_or-append-add, drop-append-add, drop_at, take_at}
use lib.Dec.{ltb}
use borrow.Author.Tests.{le-ltb, ltb-true, ltb-false}
use Rattle.lists.specs.Bytes.{byte}
use Rattle.std.specs.Prelude.{Ok, Some, None}
use Rattle.log_records.specs.Records.{record_of, records, before, by_next, next_record, records_from, records_of}
use Rattle.log_records.specs.Written.{length_bytes, written_log, AllShort, LogReadsBack}
use Rattle.log_records.proofs.Found.{small, large}

-- byte i behind the front
behind : (front back : List ℕ) (i : ℕ) → byte (front ++ back) (length front + i) ≡ byte back i
behind front back i = get_or-append-add front back i 0

here : (front back : List ℕ) → byte (front ++ back) (length front) ≡ byte back 0
here front back = ap (byte (front ++ back)) (sym (add-zero (length front))) ∙ behind front back 0

abbrev pub Stands : List ℕ → List ℕ → List ℕ → List ℕ → Type 0
Stands front bytes packet rest =
    next_record (front ++ (bytes ++ (packet ++ rest))) (length front)
    ≡ Ok (Some (record_of (length front + length bytes) (length packet) (length front + length bytes + length packet)))

-- the record that stands behind the front
pub stands : (front packet rest : List ℕ) → length packet < 16384 → Stands front (length_bytes (length packet)) packet rest
unfolding length_bytes
stands front packet rest short = go (ltb (length packet) 128) refl
  where
    n : ℕ
    n = length packet

    go : (b : Bool) → ltb (length packet) 128 ≡ b → Stands front (cond b (length packet ∷ []) ((length packet % 128 + 128) ∷ length packet / 128 ∷ [])) packet rest
    go true t =
        let h : length packet < 128 = ltb-true (length packet) 128 t in
        let room : length front + 1 + length packet ≤ length (front ++ (length packet ∷ (packet ++ rest))) = simp length-append (omega arith) in
        small (front ++ (length packet ∷ (packet ++ rest))) (length front) (length packet) (here front (length packet ∷ (packet ++ rest))) h room
    go false t =
        let h : 128 ≤ length packet = ltb-false (length packet) 128 t in
        let low : ℕ = length packet % 128 in
        let high : ℕ = length packet / 128 in
        let whole : length packet % 128 + 128 * (length packet / 128) ≡ length packet = omega (arith, div-add-mod' (length packet) 128) in
        let lo : length packet % 128 < 128 = mod-lt (length packet) (omega arith) in
        let back : List ℕ = (length packet % 128 + 128) ∷ length packet / 128 ∷ (packet ++ rest) in
        let room : length front + 2 + (length packet % 128 + 128 * (length packet / 128)) ≤ length (front ++ back) = simp length-append (omega arith) in
        large (front ++ back) (length front) (length packet % 128) (length packet / 128) (here front back) (behind front back 1) (omega arith) (omega arith) room
        ∙ ap (λ (k : ℕ). Ok (Some (record_of (length front + 2) k (length front + 2 + k)))) whole

-- the packet of that record, and what follows it
pub packet_of_lem : (front bytes packet rest : List ℕ) → take (length packet) (drop (length front + length bytes) (front ++ (bytes ++ (packet ++ rest)))) ≡ packet
packet_of_lem front bytes packet rest =
    ap (take (length packet)) (drop-append-add front (bytes ++ (packet ++ rest)) (length bytes) ∙ drop_at bytes (packet ++ rest) (length bytes) refl)
    ∙ take_at packet rest (length packet) refl

-- the end
pub ended : (log : List ℕ) → next_record log (length log) ≡ Ok None
unfolding next_record
ended log = simp (le-ltb (length log) (length log) (omega arith))

-- from behind the front on, by any number of records that is enough
from_front : (most : ℕ) (packets : List (List ℕ)) (front : List ℕ) → length packets < most → AllShort packets
    → records_from most (front ++ written_log packets) (length front) ≡ records packets true
unfolding records_from
from_front zero packets front h short = absurd (omega arith)
from_front (suc most) [] front h short = rw (append-nil front, ended front)
from_front (suc most) (packet ∷ packets) front h short =
    let bytes : List ℕ = length_bytes (length packet) in
    let rest : List ℕ = written_log packets in
    let more : List ℕ = front ++ (bytes ++ packet) in
    let apart : front ++ ((bytes ++ packet) ++ rest) ≡ front ++ (bytes ++ (packet ++ rest)) = ap (λ (l : List ℕ). front ++ l) (append_assoc bytes packet rest) in
    let again : front ++ (bytes ++ (packet ++ rest)) ≡ more ++ rest = sym (append_assoc front (bytes ++ packet) rest ∙ apart) in
    let place : length front + length bytes + length packet ≡ length more = simp length-append (omega arith) in
    let ih : records_from most (more ++ rest) (length more) ≡ records packets true = from_front most packets more (omega arith) short.1 in
    ap (λ (l : List ℕ). by_next l (records_from most l) (next_record l (length front))) apart
    ∙ (ap (by_next (front ++ (bytes ++ (packet ++ rest))) (records_from most (front ++ (bytes ++ (packet ++ rest))))) (stands front packet rest short.0)
    ∙ (ap (λ (p : List ℕ). before p (records_from most (front ++ (bytes ++ (packet ++ rest))) (length front + length bytes + length packet))) (packet_of_lem front bytes packet rest)
    ∙ (ap (λ (k : ℕ). before packet (records_from most (front ++ (bytes ++ (packet ++ rest))) k)) place
    ∙ (ap (λ (l : List ℕ). before packet (records_from most l (length more))) again
    ∙ ap (before packet) ih))))

-- a record has a byte at least
enough : (packets : List (List ℕ)) → length packets ≤ length (written_log packets)
unfolding length_bytes
enough [] = omega arith
enough (packet ∷ packets) = go (ltb (length packet) 128) (enough packets)
  where
    go : (b : Bool) → length packets ≤ length (written_log packets)
        → suc (length packets) ≤ length ((cond b (length packet ∷ []) ((length packet % 128 + 128) ∷ length packet / 128 ∷ []) ++ packet) ++ written_log packets)
    go true h = simp length-append (omega arith)
    go false h = simp length-append (omega arith)

pub log_reads_back : LogReadsBack
unfolding records_of
log_reads_back packets short = from_front (suc (length (written_log packets))) packets [] (omega (arith, enough packets)) short

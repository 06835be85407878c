-- An ID of one byte or two: written by its bytes, and two of them behind byte 0.
use Prim.Native.Nat.{ℕ, suc, ◌+◌, ◌-◌, ◌/◌, ◌%◌, ◌≤◌}
use mathlib.Core.Path.{◌≡◌, sym, ap, ◌∙◌}
use mathlib.Core.List.{List, [], ◌∷◌, ◌++◌, append-nil}
use native.Mathlib.Decide.{ℕ_discrete}
use native.Mathlib.Nat.{add-zero}
use native.Mathlib.Numerals.{add-one}
use native.Mathlib.Omega.{arith}
use lib.ListN.{length, set}
use lib.Seq.{set-set, sets}
use Rattle.lists.specs.Bytes.{in_bytes, written}
use Rattle.lists.proofs.Numbers.{length_in, in_one, in_two, one_or_two}
use Rattle.lists.proofs.Written.{stores, length-written, written_behind}
use Rattle.wire.specs.Packet.{header, addressed}
use Rattle.wire.proofs.Addressed.{length-addressed, append-addressed}

pub two_stores : (out : List ℕ) (at id ids : ℕ) → 1 ≤ ids → ids ≤ 2 → at + ids ≤ length out
    → set (set out at (id / 256 % 256)) (at + (ids - 1)) (id % 256) ≡ written out at (in_bytes ids id)
two_stores out at id ids a b fits = go (ℕ_discrete ids 1)
  where
    go : Dec (ids ≡ 1) → set (set out at (id / 256 % 256)) (at + (ids - 1)) (id % 256) ≡ written out at (in_bytes ids id)
    go (yes one) =
        let place : at + (ids - 1) ≡ at = omega arith in
        rw (place, one, in_one) (set-set out at (id / 256 % 256) (id % 256) ∙ stores out ((id % 256) ∷ []) at (omega arith))
    go (no more) =
        let two : ids ≡ 2 = one_or_two ids a b more in
        let place : at + (ids - 1) ≡ suc at = omega arith in
        rw (place, two, in_two) (stores out ((id / 256 % 256) ∷ (id % 256) ∷ []) at (omega arith))

-- byte 0, and two IDs each behind what stands before
pub addresses : (out one both : List ℕ) (first to by ids : ℕ) → header ids ≤ length out
    → one ≡ written (set out 0 first) 1 (in_bytes ids to) → both ≡ written one (1 + ids) (in_bytes ids by)
    → both ≡ written out 0 (addressed ids first to by [])
unfolding addressed
addresses out one both first to by ids fits e f =
    let front : List ℕ = first ∷ in_bytes ids to in
    let first_byte : set out 0 first ≡ written out 0 (first ∷ []) = stores out (first ∷ []) 0 (omega arith) in
    let with_one : one ≡ written out 0 front =
    e ∙ (ap (λ (l : List ℕ). written l 1 (in_bytes ids to)) first_byte ∙ written_behind out (first ∷ []) (in_bytes ids to) 0 (simp length_in (omega arith))) in
    let place : 1 + ids ≡ 0 + length front = simp length_in (omega arith) in
    f
    ∙ (ap (λ (l : List ℕ). written l (1 + ids) (in_bytes ids by)) with_one
    ∙ (ap (λ (n : ℕ). written (written out 0 front) n (in_bytes ids by)) place
    ∙ (written_behind out front (in_bytes ids by) 0 (simp length_in (omega arith))
    ∙ ap (λ (l : List ℕ). written out 0 (first ∷ (in_bytes ids to ++ l))) (sym (append-nil (in_bytes ids by))))))

-- and bytes behind them, stored one by one
pub behind-addresses : (out heads bytes : List ℕ) (first to by ids : ℕ) → header ids + length bytes ≤ length out → heads ≡ written out 0 (addressed ids first to by [])
    → sets heads (header ids) bytes ≡ written out 0 (addressed ids first to by bytes)
behind-addresses out heads bytes first to by ids fits e =
    let before : List ℕ = addressed ids first to by [] in
    let long : length before ≡ header ids = length-addressed ids first to by [] ∙ add-zero (header ids) in
    let same : length heads ≡ length out = ap length e ∙ length-written out before 0 (omega (arith, long)) in
    let place : header ids ≡ 0 + length before = omega (arith, long) in
    stores heads bytes (header ids) (omega (arith, same))
    ∙ (ap (λ (l : List ℕ). written l (header ids) bytes) e
    ∙ (ap (λ (n : ℕ). written (written out 0 before) n bytes) place
    ∙ (written_behind out before bytes 0 (omega (arith, long)) ∙ ap (written out 0) (append-addressed ids first to by [] bytes))))

-- two of them
pub two_behind : (out heads : List ℕ) (first to by ids a b : ℕ) → header ids + 2 ≤ length out → heads ≡ written out 0 (addressed ids first to by [])
    → set (set heads (header ids) a) (header ids + 1) b ≡ written out 0 (addressed ids first to by (a ∷ b ∷ []))
two_behind out heads first to by ids a b fits e = rw add-one (behind-addresses out heads (a ∷ b ∷ []) first to by ids (omega arith) e)

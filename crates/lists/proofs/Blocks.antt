-- Laws of copying in blocks: bytes of one place are read to a block, and from there written to the same place of a memory.
use Prim.Native.Nat.{ℕ, ◌≤◌, ◌+◌, ◌-◌}
use mathlib.Core.Path.{◌≡◌, ap, sym, ◌∙◌}
use mathlib.Core.List.{List}
use native.Mathlib.Omega.{arith}
use lib.ListN.{length, take, drop, length-take, length-drop}
use lib.Seq.{take_all, take-add, drop-drop}
use borrow.Rule.Slice.PartMut.{mid_of, put_mid}
use Rattle.lists.specs.Bytes.{written}
use Rattle.lists.proofs.Written.{written_is, written-nothing, written-part, written_behind}

-- ---- one block

-- k bytes from `at` on, written to the same place of the memory
pub block_written : (k : ℕ) (memory bytes part : List ℕ) (at : ℕ)
    → at + k ≤ length bytes
    → part ≡ take (at + k - at) (drop at bytes)
    → put_mid at (at + k - at) memory part ≡ written memory at (take k (drop at bytes))
block_written k memory bytes part at g e =
    let n : at + k - at ≡ k = omega arith in
    let size : length (take k (drop at bytes)) ≡ k = simp (length-take, length-drop) (omega arith) in
    rw (e, n) (simp (written_is, size, drop-drop))

-- ---- block after block

-- bytes from `from` on are copied as far as `at`: all of them that stand there, and the rest of the memory is as it was
abbrev pub copied_to : List ℕ → List ℕ → ℕ → ℕ → List ℕ
copied_to start bytes from at = written start from (take (at - from) (drop from bytes))

-- before the first block
pub nothing_copied : (start bytes : List ℕ) (from : ℕ) → start ≡ copied_to start bytes from from
nothing_copied start bytes from =
    let none : from - from ≡ 0 = omega arith in
    sym (ap (λ (j : ℕ). written start from (take j (drop from bytes))) none ∙ written-nothing start from)

-- from the first byte on they are those before `at`
pub front_copied : (start bytes : List ℕ) (at : ℕ) → written start 0 (take at bytes) ≡ copied_to start bytes 0 at
front_copied start bytes at =
    let all : at ≡ at - 0 = omega arith in
    ap (λ (j : ℕ). written start 0 (take j bytes)) all

module _ (start memory bytes : List ℕ) (from at : ℕ) (order : from ≤ at) (fits : length bytes ≤ length start) (e : memory ≡ copied_to start bytes from at) where
  -- what is written at `at` then stands behind them
  behind : (k : ℕ) → at + k ≤ length bytes → written memory at (take k (drop at bytes)) ≡ written start from (take (at - from + k) (drop from bytes))
  behind k h =
      let d : ℕ = at - from in
      let sum : from + d ≡ at = omega arith in
      let rest : drop at bytes ≡ drop d (drop from bytes) = sym (drop-drop d from bytes ∙ ap (λ (j : ℕ). drop j bytes) sum) in
      let front : length (take d (drop from bytes)) ≡ d = simp (length-take, length-drop) (omega arith) in
      let size : length (take k (drop d (drop from bytes))) ≡ k = simp (length-take, length-drop) (omega arith) in
      let place : at ≡ from + length (take d (drop from bytes)) = omega arith in
      ap (λ (m : List ℕ). written m at (take k (drop at bytes))) e
      ∙ (ap (λ (l : List ℕ). written (copied_to start bytes from at) at (take k l)) rest
      ∙ (ap (λ (j : ℕ). written (copied_to start bytes from at) j (take k (drop d (drop from bytes)))) place
      ∙ (written_behind start (take d (drop from bytes)) (take k (drop d (drop from bytes))) from (omega arith)
      ∙ ap (written start from) (sym (take-add d k (drop from bytes))))))

  -- the next k bytes
  pub next_block : (k : ℕ) → at + k ≤ length bytes → written memory at (take k (drop at bytes)) ≡ copied_to start bytes from (at + k)
  next_block k h =
      let more : at - from + k ≡ at + k - from = omega arith in
      behind k h ∙ ap (λ (j : ℕ). written start from (take j (drop from bytes))) more

  -- and all that are left
  pub last_block : at ≤ length bytes → written memory at (drop at bytes) ≡ written start from (drop from bytes)
  last_block h =
      let k : ℕ = length bytes - at in
      let all : take k (drop at bytes) ≡ drop at bytes = take_all k (drop at bytes) (simp length-drop (omega arith)) in
      ap (written memory at) (sym all)
      ∙ (behind k (omega arith) ∙ ap (written start from) (take_all (at - from + k) (drop from bytes) (simp length-drop (omega arith))))

  -- the same where the part from `at` on was lent on
  pub last_part : (part : List ℕ) → at ≤ length bytes → length memory ≡ length start
      → part ≡ written (mid_of at (length memory - at) memory) 0 (mid_of at (length bytes - at) bytes)
      → put_mid at (length memory - at) memory part ≡ written start from (drop from bytes)
  last_part part h l left =
      let k : ℕ = length bytes - at in
      let size : length (take k (drop at bytes)) ≡ k = simp (length-take, length-drop) (omega arith) in
      let all : take k (drop at bytes) ≡ drop at bytes = take_all k (drop at bytes) (simp length-drop (omega arith)) in
      written-part memory (take k (drop at bytes)) part at (omega arith) left ∙ (ap (written memory at) all ∙ last_block h)

-- Laws of marks as a number: 19 names none, and no fewer than all; of fewer it asks the last length alone.
use Prim.Native.Nat.{◌≤◌, ◌<◌, ◌+◌, ◌-◌, ◌^◌}
use mathlib.Core.Path.{◌≡◌}
use mathlib.Core.Bool.{true}
use native.Mathlib.Omega.{arith}
use native.Mathlib.Decide.{ℕ_discrete}
use lib.Pow.{pow_pos}
use borrow.Author.Tests.{le-leb, lt-leb, eq-eqb, ne_eqb}
use Rattle.marks.proofs.Marks.{all-below}
use Rattle.contexts.specs.declared.MessageContext.{MessageContext}
use Rattle.refusal19.specs.Refusal19.{bad_marks, bad_last}

module _ (c : MessageContext) where
  pub none_bad : c.marks ≡ 0 → true ≡ bad_marks c
  unfolding bad_marks
  none_bad e =
      let some : 0 < 2 ^ (c.msglen + 1) = pow_pos (c.msglen + 1) in
      simp (lt-leb (2 ^ (c.msglen + 1)) c.marks (omega arith), eq-eqb c.marks 0 e)

  pub all_bad : (c.marks ≡ 0 → ⊥) → 2 ^ (c.msglen + 1) - 1 ≤ c.marks → true ≡ bad_marks c
  unfolding bad_marks
  all_bad some h = go (ℕ_discrete c.marks (2 ^ (c.msglen + 1) - 1))
    where
      go : Dec (c.marks ≡ 2 ^ (c.msglen + 1) - 1) → true ≡ bad_marks c
      go (yes e) =
          let positive : 0 < 2 ^ (c.msglen + 1) = pow_pos (c.msglen + 1) in
          let under : c.marks < 2 ^ (c.msglen + 1) = omega arith in
          simp (
            lt-leb (2 ^ (c.msglen + 1)) c.marks under,
            ne_eqb c.marks 0 some,
            all-below c.marks (c.msglen + 1) under,
            eq-eqb c.marks (2 ^ (c.msglen + 1) - 1) e,
          )
      go (no e) = simp (le-leb (2 ^ (c.msglen + 1)) c.marks (omega arith))

  pub few_bad : (c.marks ≡ 0 → ⊥) → c.marks < 2 ^ (c.msglen + 1) - 1 → bad_last c ≡ bad_marks c
  unfolding bad_marks
  few_bad some h =
      let under : c.marks < 2 ^ (c.msglen + 1) = omega arith in
      simp (
        lt-leb (2 ^ (c.msglen + 1)) c.marks under,
        ne_eqb c.marks 0 some,
        all-below c.marks (c.msglen + 1) under,
        ne_eqb c.marks (2 ^ (c.msglen + 1) - 1) (λ e. omega arith),
      )

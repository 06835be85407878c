-- Laws of setup: what each way through the code leaves is what the definition says.
use Prim.Native.Nat.{ℕ}
use mathlib.Core.Path.{◌≡◌}
use mathlib.Core.List.{List}
use mathlib.Core.Bool.{true, false}
use lib.ListN.{length, replicate}
use borrow.Author.Tests.{eq-eqb, ne_eqb}
use Rattle.answers.specs.Answers.{ready, setup_refused}
use Rattle.answers.specs.Stands.{stands}
use Rattle.tables.specs.Refusals.{verdict}
use Rattle.wire.specs.declared.Setup.{Setup}
use Rattle.wire.specs.Packet.{too_wide}
use Rattle.sizes.specs.Sizes.{bad_mtu}
use Rattle.contexts.specs.State.{fresh}
use Rattle.contexts.specs.Words.{words_of, state_words}
use Rattle.refusal19.specs.Refusal19.{bad_room}
use Rattle.endpoint.specs.Calls.{setup, setup_table}

module _ (words : List ℕ) (settings : Setup) where
  pub setup-short : (length words ≡ state_words → ⊥) → stands (setup_refused 12) words ≡ setup words settings
  unfolding setup setup_table verdict
  setup-short l = rw (ne_eqb (length words) state_words l)

  module _ (l : length words ≡ state_words) where
    pub setup_wide : (after : List ℕ) → too_wide settings.narrow settings.device ≡ true → after ≡ replicate (length words) 0 → stands (setup_refused 47) after ≡ setup words settings
    unfolding setup setup_table verdict
    setup_wide after w e = rw (e, l, w)

    module _ (w : too_wide settings.narrow settings.device ≡ false) where
      pub setup_mtu : (after : List ℕ) → bad_mtu settings.mtu ≡ true → after ≡ replicate (length words) 0 → stands (setup_refused 18) after ≡ setup words settings
      unfolding setup setup_table verdict
      setup_mtu after b e = rw (e, l, w, b)

      pub setup-room : (after : List ℕ) → bad_mtu settings.mtu ≡ false → bad_room settings.mtu settings.room ≡ true → after ≡ replicate (length words) 0
          → stands (setup_refused 19) after ≡ setup words settings
      unfolding setup setup_table verdict
      setup-room after b d e = rw (e, l, w, b, d)

      pub setup-ready : (after : List ℕ) → bad_mtu settings.mtu ≡ false → bad_room settings.mtu settings.room ≡ false → after ≡ words_of (fresh settings)
          → stands ready after ≡ setup words settings
      unfolding setup setup_table verdict
      setup-ready after b d e = rw (e, eq-eqb (length words) state_words l, w, b, d)

-- Good states: setup makes one, and reading and abandoning leave one.
use Rattle.std.specs.Prelude.{Ok}
use Prim.Native.Nat.{ℕ}
use mathlib.Core.Path.{◌≡◌, refl, ap, sym, ◌∙◌, subst}
use mathlib.Core.List.{List}
use mathlib.Core.Bool.{Bool, true, false}
use native.Mathlib.Omega.{arith}
use lib.ListN.{length-set}
use Rattle.tables.specs.Refusals.{Verdict, VerdictOf, refuse, accept, verdict, none}
use Rattle.answers.specs.Answers.{SetupSaid, ready, setup_refused}
use Rattle.tables.proofs.Exactly.{none-held}
use Rattle.wire.specs.declared.Setup.{Setup}
use Rattle.contexts.specs.State.{State, ids_in, fresh, with_stream, with_message, closed_stream, closed_message, stream_contexts, message_contexts}
use Rattle.contexts.specs.Words.{state_of, words_of}
use Rattle.refusal19.specs.Refusal19.{named_by_19}
use Rattle.contexts.proofs.Words.{state_of_lem, length_words}
use Rattle.refusal19.proofs.Kept.{fresh-good, stream_kept, message_kept, closed_stream_lem, closed_message_lem}
use Rattle.reading.specs.Table.{state_in}
use Rattle.reading.specs.Good.{GoodWords, StillGood}
use Rattle.reading.proofs.Kept.{good_words, unchanged, stays_good}
use Rattle.wire.specs.Packet.{header}
use Rattle.endpoint.specs.Calls.{SetupPromise, SetupLeaves, setup_table, setup, setup_by}
use Rattle.answers.specs.Stands.{Stands, stands}
use Rattle.abandoning.specs.Abandoning.{context_table, abandon_by, abandon_stream, abandon_message}
use Rattle.promises.specs.GoodStates.{GoodStatesStay}

-- ---- setup
fresh_words : (settings : Setup) → named_by_19 (fresh settings) ≡ false → GoodWords (words_of (fresh settings))
fresh_words settings g = record { whole = length_words (fresh settings) refl refl; good = ap named_by_19 (state_of_lem (fresh settings) refl refl) ∙ g }

passed : (words : List ℕ) (settings : Setup) → none (setup_table words settings) → GoodWords (words_of (fresh settings))
unfolding none setup_table
passed words settings n = fresh_words settings (fresh-good settings n.1.1.0 n.1.1.1.0)

module _ (words : List ℕ) (settings : Setup) (after : List ℕ) where
  by_setup : (v : VerdictOf SetupLeaves) → verdict (setup_table words settings) ≡ v → stands ready after ≡ setup_by words settings v → GoodWords after
  by_setup (refuse number leaves) e p =
      let says : ready ≡ setup_refused number = ap (λ (s : Stands SetupSaid). s.says) p in
      absurd (let z : ◌≡◌ {A = ℕ} 0 1 = cc in omega arith)
  by_setup accept e p = subst GoodWords (sym (ap (λ (s : Stands SetupSaid). s.words) p)) (passed words settings (none-held (setup_table words settings) e))

  setup-good : SetupPromise words settings (Ok tt) after → GoodWords after
  unfolding setup
  setup-good p = by_setup (verdict (setup_table words settings)) refl p

-- ---- abandoning
by_verdict_lem : (words : List ℕ) (is_free : Bool) (after : State) (v : Verdict) → GoodWords words → StillGood (state_of words) (words_of after)
    → StillGood (state_of words) (abandon_by words is_free after v).words
by_verdict_lem words is_free after (refuse number leaves) g a = unchanged words g.whole g.good
by_verdict_lem words true after accept g a = unchanged words g.whole g.good
by_verdict_lem words false after accept g a = a

module _ (words : List ℕ) (n : ℕ) (g : GoodWords words) where
  abandon_stream-good : StillGood (state_of words) (abandon_stream words n).words
  unfolding abandon_stream
  abandon_stream-good =
      by_verdict_lem words _ _ (verdict (context_table words stream_contexts n)) g
      (good_words words (with_stream (state_of words) n closed_stream) (record { setup = refl; streams = simp length-set; messages = refl })
      (stream_kept (state_of words) n closed_stream g.good (closed_stream_lem (state_of words).setup.room)))

  abandon_message-good : StillGood (state_of words) (abandon_message words n).words
  unfolding abandon_message
  abandon_message-good =
      by_verdict_lem words _ _ (verdict (context_table words message_contexts n)) g
      (good_words words (with_message (state_of words) n closed_message) (record { setup = refl; streams = refl; messages = simp length-set })
      (message_kept (state_of words) n closed_message g.good closed_message_lem))

pub good_states_stay : GoodStatesStay
good_states_stay = record {
  set_up = setup-good;
  read = λ x g bytes. stays_good x g.whole g.good (bytes (header (ids_in (state_in x))));
  abandon_stream_lem = abandon_stream-good;
  abandon_message_lem = abandon_message-good;
}

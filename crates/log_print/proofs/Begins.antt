-- The desk that the runs begin with is the log program's; what the runs keep; what a log that is too long prints.
use Prim.Native.Nat.{ℕ, ◌+◌, ◌*◌, ◌≤◌, ◌<◌}
use mathlib.Core.Path.{◌≡◌, refl, ap, ◌∙◌}
use mathlib.Core.List.{List}
use native.Mathlib.Nat.{zero-add}
use lib.ListN.{length, replicate}
use borrow.Author.Tests.{lt-ltb}
use Rattle.std.specs.Prelude.{⊤, Result}
use Rattle.refusals.specs.declared.Refusal.{Refusal}
use Rattle.answers.specs.Answers.{SetupSaid}
use Rattle.tables.specs.Refusals.{verdict}
use Rattle.wire.specs.Packet.{id_bytes, too_wide}
use Rattle.sizes.specs.Sizes.{bad_mtu}
use Rattle.contexts.specs.State.{fresh}
use Rattle.contexts.specs.Words.{words_of, state_words}
use Rattle.refusal19.specs.Refusal19.{bad_room}
use Rattle.endpoint.specs.Calls.{setup, setup_table, SetupPromise}
use Rattle.answers.specs.Stands.{Stands}
use Rattle.flows.specs.Fresh.{paper_setup}
use Rattle.log_lines.specs.Lines.{bad_log}
use Rattle.log_pieces.specs.Output.{output}
use Rattle.reading.specs.Desk.{Desk, desk}
use Rattle.log_pieces.proofs.Pieces.{short_log}
use Rattle.log_run.proofs.Runs.{still}

-- the arrays keep their lengths; the bytes put and those still to come are the output's; no more records than bytes were read, and each run
-- puts at most a buffer and comes on by a byte
pub record Sums (log : List ℕ) (b : Desk) (out : List ℕ) (at count total : ℕ) : Type 0 where
  pub words : length b.words ≡ state_words
  pub streams : length b.stream_memory ≡ 32768
  pub messages : length b.message_memory ≡ 32768
  pub reply : length b.response ≡ 7
  pub buffer : length out ≡ 65536
  pub few : count ≤ at
  pub inside : at ≤ length log
  pub fits : total ≤ 65536 * at
  pub whole : total + length (still b log at count) ≡ length (output log)

set_up : (words : List ℕ) (r : Result ⊤ Refusal) → SetupPromise (replicate state_words 0) paper_setup r words → words ≡ words_of (fresh paper_setup)
unfolding setup setup_table verdict too_wide bad_mtu bad_room
set_up words r p = ap (λ (x : Stands SetupSaid). x.words) p

-- nothing is put, and the whole output is still to come
pub begins : (log words : List ℕ) (r : Result ⊤ Refusal) → length log ≤ 65536 → SetupPromise (replicate state_words 0) paper_setup r words
    → 0 + length (still (desk words (replicate 32768 0) (replicate 32768 0) (replicate 7 0)) log 0 0) ≡ length (output log)
unfolding id_bytes
begins log words r small p =
    zero-add _
    ∙ (ap (λ (w : List ℕ). length (still (desk w (replicate 32768 0) (replicate 32768 0) (replicate 7 0)) log 0 0)) (set_up words r p)
    ∙ ap length (short_log log small))

pub too_long : (log : List ℕ) → 65536 < length log → 8 ≡ length (output log)
unfolding output bad_log
too_long log h = rw (lt-ltb 65536 (length log) h) refl

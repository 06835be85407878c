-- Good states: setup makes one, and reading (of a packet whose items are bytes) and abandoning leave one. So a run over many packets tests the
-- state once.
use Rattle.std.specs.Prelude.{ℕ, List, Ok}
use Rattle.lists.specs.Bytes.{AreBytes}
use Rattle.wire.specs.declared.Setup.{Setup}
use Rattle.contexts.specs.Words.{state_of}
use Rattle.reading.specs.Table.{Lent, state_in}
use Rattle.reading.specs.Read.{reading}
use Rattle.reading.specs.Good.{GoodWords, StillGood}
use Rattle.endpoint.specs.Calls.{SetupPromise}
use Rattle.abandoning.specs.Abandoning.{abandon_stream, abandon_message}

pub record GoodStatesStay : Type 0 where
  pub set_up : (words : List ℕ) (settings : Setup) (after : List ℕ) → SetupPromise words settings (Ok tt) after → GoodWords after
  pub read : (x : Lent) → GoodWords x.desk.words → AreBytes x.packet → StillGood (state_in x) (reading x).desk.words
  pub abandon_stream_lem : (words : List ℕ) (n : ℕ) → GoodWords words → StillGood (state_of words) (abandon_stream words n).words
  pub abandon_message_lem : (words : List ℕ) (n : ℕ) → GoodWords words → StillGood (state_of words) (abandon_message words n).words

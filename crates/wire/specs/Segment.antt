-- A type 9 packet as its fields say it. `begins` is S: a start or a single; `ends` is E: an end or a single. `field` is the streamID where it
-- begins a PDU, the PDU length of an end, 0 of a continuation. Its data lie from `from` on, `raw` bytes with the pad. `odd` is O, `pad` is P.
use Rattle.std.specs.Prelude.{ℕ, Bool}
use Rattle.wire.specs.declared.Flow.{Flow}

pub record Segment : Type 0 where
  pub begins : Bool
  pub ends : Bool
  pub flow : Flow
  pub field : ℕ
  pub from : ℕ
  pub raw : ℕ
  pub odd : Bool
  pub pad : Bool

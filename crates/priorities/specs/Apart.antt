-- APART BY PRIORITY (document 02, M-103): two type 9 packets that agree in all but their priority never share a stream context.
use Rattle.std.specs.Prelude.{ℕ, ◌%◌, ◌<◌, ◌≡◌, List, ◌∷◌, ◌++◌, false, drop}
use Rattle.lists.specs.Bytes.{byte}
use Rattle.wire.specs.declared.Flow.{Flow}
use Rattle.wire.specs.declared.Setup.{Setup}
use Rattle.wire.specs.Packet.{priority, ids_of}
use Rattle.wire.specs.Type9.{same_flow, flow_of}
use Rattle.contexts.specs.State.{stream_contexts, flow_context}
use Rattle.reading.specs.Desk.{Desk, state_on}
use Rattle.flows.specs.Apart.{AtMostSixteenFlows, answers_to}
use Rattle.priorities.specs.Joined.{joined_to}

-- the same bytes but for the upper two bits of byte 0, which differ
pub record AllButPriority (p q : List ℕ) : Type 0 where
  pub first_byte : byte p 0 % 64 ≡ byte q 0 % 64
  pub others : drop 1 p ≡ drop 1 q
  pub differ : priority p ≡ priority q → ⊥

-- it is one of these
pub data Among (p : List ℕ) : List (List ℕ) → Type 0 where
  first : {ps : List (List ℕ)} → Among p (p ∷ ps)
  later : {q : List ℕ} {ps : List (List ℕ)} → Among p ps → Among p (q ∷ ps)

-- at a desk: no stream context is that of both flows
abbrev pub NeverShared : (a b : Flow) → Desk → Type 0
NeverShared a b d = (n : ℕ) → n < stream_contexts → flow_context (state_on d) a ≡ n → flow_context (state_on d) b ≡ n → ⊥

-- whatever comes before q and behind it. As p and q may be exchanged, it is so either way round
pub record PriorityApartAt (setup : Setup) (d : Desk) (p q : List ℕ) (before behind : List (List ℕ)) : Type 0 where
  -- they are of two flows
  pub two_flows : same_flow (flow_of (ids_of setup) p) (flow_of (ids_of setup) q) ≡ false
  -- no stream context is that of both, at any desk
  pub two_contexts : (b : Desk) → NeverShared (flow_of (ids_of setup) p) (flow_of (ids_of setup) q) b
  -- no context is ever used for the data of both
  pub never_joined : (n : ℕ) → Among p (joined_to setup d (before ++ (q ∷ behind)) n) → Among q (joined_to setup d (before ++ (q ∷ behind)) n) → ⊥
  -- and the packets of p's flow are answered as if q had not come
  pub undisturbed : answers_to setup (flow_of (ids_of setup) p) d (before ++ (q ∷ behind)) ≡ answers_to setup (flow_of (ids_of setup) p) d (before ++ behind)

-- from fresh, with at most sixteen flows
abbrev pub PriorityApart : Type 0
PriorityApart =
    (setup : Setup) (d : Desk) (p q : List ℕ) (flows : List Flow) (before behind : List (List ℕ))
    → AllButPriority p q → AtMostSixteenFlows setup d flows (before ++ (q ∷ behind))
    → PriorityApartAt setup d p q before behind

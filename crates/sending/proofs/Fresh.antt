-- A desk that was just set up has no open flow and its own R, and for at most sixteen flows the laws hold of it: so it begins.
use Prim.Native.Nat.{ℕ, suc}
use mathlib.Core.Path.{◌≡◌, refl, ap, ◌∙◌}
use mathlib.Core.List.{List, [], ◌∷◌}
use native.Mathlib.Omega.{arith}
use lib.ListN.{length}
use Rattle.contexts.specs.State.{State, fresh}
use Rattle.contexts.specs.Words.{state_of}
use Rattle.contexts.proofs.Words.{state_of_lem}
use Rattle.flows.proofs.Fine.{Fine, fresh-fine, fresh-view}
use Rattle.flows.proofs.Machine.{by_flow}
use Rattle.sending.specs.Sending.{FlowSent, flows_of}
use Rattle.sending.specs.OfSendings.{FreshBegins, SendingBegins}

pub fresh-begins : FreshBegins
fresh-begins setup flows b few f = record {
  Ok = Fine setup flows;
  law = by_flow setup flows few;
  ok = fresh-fine setup b f flows;
  own_R = ap (λ (w : List ℕ). (state_of w).setup.room) f.words ∙ ap (λ (s : State). s.setup.room) (state_of_lem (fresh setup) refl refl);
  closed = fresh-view setup b f;
}

flows_length : (xs : List FlowSent) → length (flows_of (record { flows = xs; turns = [] })) ≡ length xs
flows_length [] = refl
flows_length (x ∷ xs) = ap suc (flows_length xs)

pub sending_begins : SendingBegins
sending_begins setup s b sent f = fresh-begins setup (flows_of s) b (omega (arith, sent.sixteen, flows_length s.flows)) f

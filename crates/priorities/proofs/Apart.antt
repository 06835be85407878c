-- Apart by priority: an instance of FlowsApart.
use Prim.Native.Nat.{ℕ, ◌<◌}
use native.Mathlib.Omega.{arith}
use mathlib.Core.Path.{◌≡◌, refl, ap, sym, ◌∙◌}
use mathlib.Core.Bool.{true, false, cond}
use mathlib.Core.List.{List, [], ◌∷◌, ◌++◌}
use Rattle.lists.specs.Bytes.{AreBytes}
use Rattle.lists.specs.Each.{Each}
use Rattle.lists.proofs.First.{first_passes}
use Rattle.wire.specs.declared.Flow.{Flow}
use Rattle.wire.specs.declared.Setup.{Setup}
use Rattle.wire.specs.Segment.{Segment}
use Rattle.wire.specs.Packet.{priority, ids_of}
use Rattle.wire.specs.Type9.{flow_of}
use Rattle.wire.specs.Parsed.{Parsed, Refused, Stream, Message, parsed}
use Rattle.wire.proofs.Fields.{flow_is}
use Rattle.wire.proofs.SameFlow.{ne_same}
use Rattle.contexts.specs.State.{closed_stream, is_of_flow, flow_context, stream_in}
use Rattle.contexts.proofs.Words.{sixteen}
use Rattle.contexts.proofs.Flows.{of_flow_lem}
use Rattle.reading.specs.Desk.{Desk, state_on}
use Rattle.reading.proofs.Packets.{stream_parsed}
use Rattle.flows.specs.Apart.{is_of, packets_of, flow_among}
use Rattle.flows.proofs.Apart.{same_packets_same_answers}
use Rattle.priorities.specs.Joined.{joined_to, HasFlow}
use Rattle.priorities.specs.Apart.{Among, first, later, NeverShared, PriorityApart}
use Rattle.priorities.proofs.Joined.{Common, joined_common}

-- two flows that are not one never share a context, at any desk
pub never_shared : (a b : Flow) → (a ≡ b → ⊥) → (d : Desk) → NeverShared a b d
unfolding flow_context
never_shared a b two d n lt mine yours =
    two (sym (of_flow_lem a _ (found a mine)) ∙ of_flow_lem b _ (found b yours))
  where
    found : (k : Flow) → flow_context (state_on d) k ≡ n → is_of_flow k (stream_in (state_on d) n) ≡ true
    found k e =
        ap (λ (i : ℕ). is_of_flow k (stream_in (state_on d) i)) (sym e)
        ∙ first_passes (is_of_flow k) (state_on d).streams closed_stream (omega (arith, e, lt, sixteen d.words))

-- what holds of each holds of one of them
of_one : (P : List ℕ → Type 0) (p : List ℕ) (ps : List (List ℕ)) → Each P ps → Among p ps → P p
of_one P p [] e a = elim a [ ]
of_one P p (x ∷ ps) e first = e.0
of_one P p (x ∷ ps) e (later a) = of_one P p ps e.1 a

-- what holds of each of two lists with one between holds of each without it
without : (P : List ℕ → Type 0) (before : List (List ℕ)) (q : List ℕ) (behind : List (List ℕ)) → Each P (before ++ (q ∷ behind)) → Each P (before ++ behind)
without P [] q behind e = e.1
without P (x ∷ xs) q behind e = (e.0, without P xs q behind e.1)

-- a packet of another flow is none of a flow's
packets-without : (setup : Setup) (flow : Flow) (before : List (List ℕ)) (q : List ℕ) (behind : List (List ℕ)) → is_of flow (parsed setup q) ≡ false
    → packets_of setup flow (before ++ (q ∷ behind)) ≡ packets_of setup flow (before ++ behind)
packets-without setup flow [] q behind e = rw e
packets-without setup flow (x ∷ xs) q behind e =
    ap (λ (l : List (List ℕ)). cond (is_of flow (parsed setup x)) (x ∷ l) l) (packets-without setup flow xs q behind e)

pub priority_apart : PriorityApart
priority_apart setup d p q flows before behind but fresh = record {
  two_flows = ne_same (flow_of ids p) (flow_of ids q) differ;
  two_contexts = never_shared (flow_of ids p) (flow_of ids q) differ;
  never_joined = λ n mine yours.
      let one : Common setup (joined_to setup d (before ++ (q ∷ behind)) n) = joined_common setup d (before ++ (q ∷ behind)) fresh.fresh fresh.bytes n in
      but.differ
      ((of_one (HasFlow ids one.flow) p _ one.each mine).priority
      ∙ sym (of_one (HasFlow ids one.flow) q _ one.each yours).priority);
  undisturbed = same_packets_same_answers setup d d flows flows (before ++ (q ∷ behind)) (before ++ behind) fresh
      (record { fresh = fresh.fresh; few = fresh.few; bytes = without AreBytes before q behind fresh.bytes; occur = without (λ (x : List ℕ). flow_among flows (parsed setup x) ≡ true) before q behind fresh.occur })
      (flow_of ids p) (packets-without setup (flow_of ids p) before q behind (others (parsed setup q) refl));
}
  where
    ids : ℕ
    ids = ids_of setup

    differ : flow_of ids p ≡ flow_of ids q → ⊥
    differ e = but.differ (ap (λ (k : Flow). k.priority) e)

    others : (x : Parsed) → parsed setup q ≡ x → is_of (flow_of ids p) x ≡ false
    others (Refused number) e = refl
    others (Stream g) e =
        ne_same g.flow (flow_of ids p)
        (λ same. differ (sym (sym (ap (λ (y : Segment). y.flow) (stream_parsed q setup g e).0 ∙ flow_is ids q) ∙ same)))
    others (Message m) e = refl

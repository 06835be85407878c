-- A sending that is fair for R is fair for the largest R, which holds every MTU; and R decides neither what it leaves nor what is whole.
use Prim.Native.Nat.{ℕ, zero, suc, ◌≤◌}
use mathlib.Core.Path.{◌≡◌, refl, ap, ap₂}
use mathlib.Core.List.{List, [], ◌∷◌, ◌++◌}
use native.Mathlib.Omega.{arith}
use Rattle.lists.specs.Each.{Each}
use Rattle.wire.specs.declared.Flow.{Flow}
use Rattle.wire.specs.declared.Setup.{Setup}
use Rattle.wire.specs.Parsed.{parsed}
use Rattle.contexts.specs.State.{fixed}
use Rattle.sending.specs.Sending.{Sent, packet_count, Put, put_of, puts_from, flow_puts, FlowSent, Turn, Sending, sent_on, events, queues, packets_left, wholes, packets, whole}
use Rattle.sending.specs.Sending.{FairPDU, FairFlow, FairTurn, Fair}

each : {A : Type 0} (P Q : A → Type 0) → ((x : A) → P x → Q x) → (xs : List A) → Each P xs → Each Q xs
each P Q f [] e = tt
each P Q f (x ∷ xs) e = (f x e.0, each P Q f xs e.1)

module _ (setup : Setup) where
  -- the same device, MTU and width, and the largest R
  abbrev pub widest : Setup
  widest = fixed setup.device setup.mtu 65536 setup.narrow

  puts_same : (flow : Flow) (s : Sent) (n k : ℕ) → puts_from widest flow s k n ≡ puts_from setup flow s k n
  unfolding put_of
  puts_same flow s zero k = refl
  puts_same flow s (suc n) k = ap (λ (xs : List Put). put_of setup flow s k ∷ xs) (puts_same flow s n (suc k))

  flow_same : (flow : Flow) (ss : List Sent) → flow_puts widest flow ss ≡ flow_puts setup flow ss
  flow_same flow [] = refl
  flow_same flow (s ∷ ss) = ap₂ (λ (xs ys : List Put). xs ++ ys) (puts_same flow s (packet_count setup.mtu s) 0) (flow_same flow ss)

  queues-same : (s : Sending) → queues widest s ≡ queues setup s
  queues-same s = λ i flow. flow_same flow (sent_on s.flows flow) i

  pub same-packets : (s : Sending) → packets widest s ≡ packets setup s
  same-packets s = ap (λ (q : Flow → List Put). packets_left (events q s.turns)) (queues-same s)

  pub same_whole : (s : Sending) → whole widest s ≡ whole setup s
  same_whole s = ap (λ (q : Flow → List Put). wholes (events q s.turns)) (queues-same s)

  module _ (most : setup.room ≤ 65536) where
    wider_PDU : (s : Sent) → FairPDU setup.room s → FairPDU 65536 s
    wider_PDU s f = record { stream = f.stream; bytes = f.bytes; some_byte = f.some_byte; fits = omega (arith, f.fits) }

    wider_flow : (x : FlowSent) → FairFlow setup x → FairFlow widest x
    wider_flow x f = record { source = f.source; priority = f.priority; cos = f.cos; PDUs = each (FairPDU setup.room) (FairPDU 65536) wider_PDU x.sent f.PDUs }

    wider_turn : (t : Turn) → FairTurn setup t → FairTurn widest t
    unfolding parsed
    wider_turn (Turn.next flow) f = f
    wider_turn (Turn.between p) f = f

    pub wider : (s : Sending) → Fair setup s → Fair widest s
    wider s f = record {
      sent_fairly = record {
        sixteen = f.sent_fairly.sixteen;
        flows = each (FairFlow setup) (FairFlow widest) wider_flow s.flows f.sent_fairly.flows;
        turns = each (FairTurn setup) (FairTurn widest) wider_turn s.turns f.sent_fairly.turns;
      };
      one_loss = f.one_loss;
      neighbours = f.neighbours;
    }

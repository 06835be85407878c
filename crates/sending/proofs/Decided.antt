-- Whether a sending is fair is decided by computation.
use Prim.Native.Nat.{ℕ, ◌^◌, ◌≤◌}
use mathlib.Core.Path.{◌≡◌, ap, sym, ◌∙◌}
use mathlib.Core.List.{List, [], ◌∷◌}
use mathlib.Core.Bool.{Bool, true, false, not, ◌||◌, ◌&&◌, false≢true}
use native.Mathlib.Omega.{arith}
use lib.ListN.{length}
use lib.Dec.{ltb, leb}
use borrow.Author.Tests.{ltb-true, leb-true, not-true}
use Rattle.lists.specs.Each.{Each}
use Rattle.lists.proofs.Tests.{both}
use Rattle.lists.proofs.Below.{below, are_bytes}
use Rattle.wire.specs.Parsed.{Parsed}
use Rattle.wire.specs.Parsed.{Refused, Stream, Message}
use Rattle.wire.specs.Packet.{ids_of}
use Rattle.wire.specs.Parsed.{parsed}
use Rattle.wire.specs.declared.Setup.{Setup}
use Rattle.sending.specs.Sending.{Sent, losses, is_whole, FlowSent, Turn, next, between, Sending, FairPDU, FairFlow, FairTurn, OneOfTwoWhole, Fair}

-- ---- Lists

-- whether a test holds of each
unfoldable pub all_of : {A : Type 0} → (A → Bool) → List A → Bool
all_of test [] = true
all_of test (x ∷ xs) = test x && all_of test xs

pub each_by : {A : Type 0} (P : A → Type 0) (test : A → Bool) → ((x : A) → test x ≡ true → P x) → (xs : List A) → all_of test xs ≡ true → Each P xs
unfolding all_of
each_by P test f [] e = tt
each_by P test f (x ∷ xs) e = let h = both (test x) (all_of test xs) e in (f x h.0, each_by P test f xs h.1)

-- ---- A sending

unfoldable pub is_fair_pdu : ℕ → Sent → Bool
is_fair_pdu R s = ltb s.pdu.stream 65536 && (below 256 s.pdu.bytes && (leb 1 (length s.pdu.bytes) && leb (length s.pdu.bytes) R))

pub fair_PDU : (R : ℕ) (s : Sent) → is_fair_pdu R s ≡ true → FairPDU R s
unfolding is_fair_pdu
fair_PDU R s e =
    let a = both (ltb s.pdu.stream 65536) _ e in
    let b = both (below 256 s.pdu.bytes) _ a.1 in
    let c = both (leb 1 (length s.pdu.bytes)) _ b.1 in
    record {
      stream = ltb-true s.pdu.stream 65536 a.0;
      bytes = are_bytes s.pdu.bytes b.0;
      some_byte = omega (arith, leb-true 1 (length s.pdu.bytes) c.0);
      fits = omega (arith, leb-true (length s.pdu.bytes) R c.1);
    }

unfoldable pub is_fair_flow : Setup → FlowSent → Bool
is_fair_flow setup x = ltb x.flow.source (256 ^ ids_of setup) && (leb x.flow.priority 3 && (ltb x.flow.cos 256 && all_of (is_fair_pdu setup.room) x.sent))

fair_flow : (setup : Setup) (x : FlowSent) → is_fair_flow setup x ≡ true → FairFlow setup x
unfolding is_fair_flow
fair_flow setup x e =
    let a = both (ltb x.flow.source (256 ^ ids_of setup)) _ e in
    let b = both (leb x.flow.priority 3) _ a.1 in
    let c = both (ltb x.flow.cos 256) _ b.1 in
    record {
      source = ltb-true x.flow.source (256 ^ ids_of setup) a.0;
      priority = leb-true x.flow.priority 3 b.0;
      cos = ltb-true x.flow.cos 256 c.0;
      PDUs = each_by (FairPDU setup.room) (is_fair_pdu setup.room) (fair_PDU setup.room) x.sent c.1;
    }

-- a packet that is parsed as no segment
unfoldable pub is_segment : Parsed → Bool
is_segment (Refused number) = false
is_segment (Stream g) = true
is_segment (Message m) = false

unfoldable pub is_fair_turn : Setup → Turn → Bool
is_fair_turn setup (next flow) = true
is_fair_turn setup (between p) = not (is_segment (parsed setup p)) && below 256 p

fair_turn : (setup : Setup) (t : Turn) → is_fair_turn setup t ≡ true → FairTurn setup t
unfolding is_fair_turn is_segment
fair_turn setup (next flow) e = tt
fair_turn setup (between p) e =
    let a = both (not (is_segment (parsed setup p))) (below 256 p) e in
    let none-parsed : is_segment (parsed setup p) ≡ false = not-true _ a.0 in
    (λ g s. absurd (false≢true (sym none-parsed ∙ ap is_segment s)), are_bytes p a.1)

-- at most one loss each, and one of two neighbours whole
unfoldable pub is_one_loss : Setup → FlowSent → Bool
is_one_loss setup x = all_of (λ (y : Sent). leb (losses setup.mtu y) 1) x.sent

one_loss : (setup : Setup) (x : FlowSent) → is_one_loss setup x ≡ true → Each (λ (y : Sent). losses setup.mtu y ≤ 1) x.sent
unfolding is_one_loss
one_loss setup x e = each_by (λ (y : Sent). losses setup.mtu y ≤ 1) (λ (y : Sent). leb (losses setup.mtu y) 1) (λ y h. leb-true (losses setup.mtu y) 1 h) x.sent e

unfoldable pub is_one_of_two : ℕ → List Sent → Bool
is_one_of_two mtu [] = true
is_one_of_two mtu (s ∷ []) = true
is_one_of_two mtu (s ∷ s' ∷ ss) = (is_whole mtu s || is_whole mtu s') && is_one_of_two mtu (s' ∷ ss)

one_of_two : (mtu : ℕ) (ss : List Sent) → is_one_of_two mtu ss ≡ true → OneOfTwoWhole mtu ss
unfolding is_one_of_two
one_of_two mtu [] e = tt
one_of_two mtu (s ∷ []) e = tt
one_of_two mtu (s ∷ s' ∷ ss) e = let h = both (is_whole mtu s || is_whole mtu s') (is_one_of_two mtu (s' ∷ ss)) e in (h.0, one_of_two mtu (s' ∷ ss) h.1)

unfoldable pub is_fair : Setup → Sending → Bool
is_fair setup s =
    leb (length s.flows) 16 && (all_of (is_fair_flow setup) s.flows && (all_of (is_fair_turn setup) s.turns
    && (all_of (is_one_loss setup) s.flows && all_of (λ (x : FlowSent). is_one_of_two setup.mtu x.sent) s.flows)))

pub is_fair_lem : (setup : Setup) (s : Sending) → is_fair setup s ≡ true → Fair setup s
unfolding is_fair
is_fair_lem setup s e =
    let a = both (leb (length s.flows) 16) _ e in
    let b = both (all_of (is_fair_flow setup) s.flows) _ a.1 in
    let c = both (all_of (is_fair_turn setup) s.turns) _ b.1 in
    let d = both (all_of (is_one_loss setup) s.flows) _ c.1 in
    record {
      sent_fairly = record {
        sixteen = omega (arith, leb-true (length s.flows) 16 a.0);
        flows = each_by (FairFlow setup) (is_fair_flow setup) (fair_flow setup) s.flows b.0;
        turns = each_by (FairTurn setup) (is_fair_turn setup) (fair_turn setup) s.turns c.0;
      };
      one_loss = each_by (λ (x : FlowSent). Each (λ (y : Sent). losses setup.mtu y ≤ 1) x.sent) (is_one_loss setup) (one_loss setup) s.flows d.0;
      neighbours =
          each_by (λ (x : FlowSent). OneOfTwoWhole setup.mtu x.sent) (λ (x : FlowSent). is_one_of_two setup.mtu x.sent) (λ x h. one_of_two setup.mtu x.sent h)
          s.flows d.1;
    }

-- what a proof by computation looks through
unfoldable pub deciding : Unit {0}
unfolding all_of below is_fair_pdu is_fair_flow is_segment is_fair_turn is_one_loss is_one_of_two is_fair
deciding = tt

-- No receiver can tell a joint from a PDU that was sent whole: packet 0 is the first's, every later one the second's, byte for byte.
-- A flow alone, with a turn for each packet, puts all of them on, in order.
use Prim.Native.Nat.{ℕ, zero, suc, ◌+◌, ◌-◌, ◌*◌, ◌≤◌}
use mathlib.Core.Path.{◌≡◌, refl, sym, ap, ◌∙◌, subst}
use mathlib.Core.List.{List, [], ◌∷◌, ◌++◌, map, tail}
use mathlib.Core.Bool.{Bool, true, false, cond, ◌&&◌, false≢true, ◌||◌}
use mathlib.Core.Option.{Option, none, some}
use native.Mathlib.Omega.{arith}
use native.Mathlib.Nat.{zero-mul}
use lib.ListN.{length, take, drop, replicate}
use lib.Seq.{length-take-le, take_at, drop-append-add, drop-drop}
use lib.Dec.{eqb, leb}
use borrow.Author.Tests.{eqb-true, leb-true, eq-eqb, ne_eqb}
use Rattle.wire.specs.declared.Flow.{Flow}
use Rattle.wire.specs.Packet.{ids_of, first_byte_of, addressed}
use Rattle.cutting.specs.Cutting.{segment_count, segment_data, is_first, is_final, pad_of, flags_of, field_of, packet_of}
use Rattle.sizes.specs.Sizes.{bad_mtu}
use Rattle.wire.specs.declared.Setup.{Setup}
use Rattle.flows.specs.OneFlow.{PDU}
use Rattle.flows.specs.Deliveries.{Delivery, delivery}
use Rattle.wire.proofs.SameFlow.{same_refl}
use Rattle.lists.specs.Each.{Each}
use Rattle.sending.specs.Sending.{Sent, is_lost, packet_count, losses_from, losses, is_whole, Put, heading_for, put_of, puts_from, flow_puts, next}
use Rattle.sending.specs.Sending.{next_event, advance, events, queues, packets_left, tell, wholes, packets, whole, FairPDU, FairTurn, FairlySent}
use Rattle.sending.specs.Meaning.{intact}
use Rattle.sending.specs.OneFlow.{also, arriving}
use Rattle.sending.specs.Joint.{is_joint, joint_pdu, pair_packets, Pair, joint_sent, in_turn, JointUntold}
use Rattle.sending.proofs.Fields.{bytes_append, bytes_take, bytes_drop}
use Rattle.sending.proofs.Steps.{inner_size}
use Rattle.sending.proofs.Losses.{no_losses, count_lost, none_lost, lost_counts}
use Rattle.sending.proofs.Runs.{completed}
use Rattle.sending.proofs.Joint.{joint-length}
use Rattle.sending.proofs.Meaning.{flow_completed}

-- what the test says
record Joint (mtu : ℕ) (a b : Sent) : Type 0 where
  two : packet_count mtu a ≡ 2
  end_lost_lem : is_lost a 1 ≡ true
  several : 2 ≤ packet_count mtu b
  start_lost_lem : is_lost b 0 ≡ true

is_joint_lem : (mtu : ℕ) (a b : Sent) → is_joint mtu a b ≡ true → Joint mtu a b
unfolding is_joint
is_joint_lem mtu a b e = go (eqb (packet_count mtu a) 2) (is_lost a 1) (leb 2 (packet_count mtu b)) (is_lost b 0) refl refl refl refl e
  where
    go : (p x q y : Bool) → eqb (packet_count mtu a) 2 ≡ p → is_lost a 1 ≡ x → leb 2 (packet_count mtu b) ≡ q → is_lost b 0 ≡ y → ((p && x) && (q && y)) ≡ true → Joint mtu a b
    go true true true true ep ex eq ey e = record { two = eqb-true (packet_count mtu a) 2 ep; end_lost_lem = ex; several = leb-true 2 (packet_count mtu b) eq; start_lost_lem = ey }
    go true true true false ep ex eq ey e = absurd (false≢true e)
    go true true false y ep ex eq ey e = absurd (false≢true e)
    go true false q y ep ex eq ey e = absurd (false≢true e)
    go false x q y ep ex eq ey e = absurd (false≢true e)

-- n packets from number k on
abbrev pub packets_from : Setup → Flow → Sent → (k n : ℕ) → List (List ℕ)
packets_from setup flow s k zero = []
packets_from setup flow s k (suc n) = packet_of (heading_for setup flow s) setup.mtu s.pdu.bytes k ∷ packets_from setup flow s (suc k) n

-- none of them lost, they all arrive
module _ (setup : Setup) (flow : Flow) (s : Sent) (more : List Put) where
  arriving_lost : (k : ℕ) (xs : List Put) → is_lost s k ≡ true → arriving (put_of setup flow s k ∷ xs) ≡ arriving xs
  unfolding put_of
  arriving_lost k xs e = rw e

  arriving-seen : (k : ℕ) (xs : List Put) → is_lost s k ≡ false → arriving (put_of setup flow s k ∷ xs) ≡ packet_of (heading_for setup flow s) setup.mtu s.pdu.bytes k ∷ arriving xs
  unfolding put_of
  arriving-seen k xs e = rw e

  all_arrive : (n k : ℕ) → losses_from s.lost k n ≡ 0 → arriving (puts_from setup flow s k n ++ more) ≡ packets_from setup flow s k n ++ arriving more
  all_arrive zero k e = refl
  all_arrive (suc n) k e =
      let h = none_lost s.lost k n e in
      arriving-seen k (puts_from setup flow s (suc k) n ++ more) h.0 ∙ ap
      (λ (l : List (List ℕ)). packet_of (heading_for setup flow s) setup.mtu s.pdu.bytes k ∷ l) (all_arrive n (suc k) h.1)

-- ---- Two packets are the same by their parts

abbrev parts : Setup → Flow → (k : ℕ) → (final : Bool) → (field bytes : List ℕ) → List ℕ
parts setup flow k final field bytes =
    addressed (ids_of setup) (first_byte_of (ids_of setup) flow.priority 9) setup.device flow.source
    (flow.cos
    ∷ flags_of (is_first k) final (length bytes)
    ∷ (field ++ bytes ++ pad_of (length bytes)))

same_parts : (setup : Setup) (flow : Flow) (k : ℕ) (l l' : Bool) (f f' d d' : List ℕ) → l ≡ l' → f ≡ f' → d ≡ d' → parts setup flow k l f d ≡ parts setup flow k l' f' d'
same_parts setup flow k l l' f f' d d' e₁ e₂ e₃ = rw (e₁, e₂, e₃)

-- the k-th of two PDUs
abbrev field_at : ℕ → Sent → ℕ → List ℕ
field_at mtu s k = field_of (is_first k) (is_final mtu s.pdu.bytes k) s.pdu.stream (length s.pdu.bytes)

same-packet : (setup : Setup) (flow : Flow) (s s' : Sent) (k : ℕ) → is_final setup.mtu s.pdu.bytes k ≡ is_final setup.mtu s'.pdu.bytes k
    → field_at setup.mtu s k ≡ field_at setup.mtu s' k → segment_data setup.mtu s.pdu.bytes k ≡ segment_data setup.mtu s'.pdu.bytes k
    → packet_of (heading_for setup flow s) setup.mtu s.pdu.bytes k ≡ packet_of (heading_for setup flow s') setup.mtu s'.pdu.bytes k
unfolding packet_of
same-packet setup flow s s' k e₁ e₂ e₃ = same_parts setup flow k _ _ _ _ _ _ e₁ e₂ e₃

-- ---- The joint's packets

module _ (setup : Setup) (flow : Flow) (a b : Sent) (pair : Pair setup flow a b) (test : is_joint setup.mtu a b ≡ true) where
  j : Joint setup.mtu a b
  j = is_joint_lem setup.mtu a b test

  pub front_length : length (take setup.mtu a.pdu.bytes) ≡ setup.mtu
  front_length =
      let size = inner_size setup flow pair.ranges a pair.first_fair 0 (omega (arith, j.two)) in
      length-take-le setup.mtu a.pdu.bytes (omega arith)

  same_length : length (joint_pdu setup.mtu a b).bytes ≡ length b.pdu.bytes
  same_length = joint-length setup flow a b pair test

  later_data : (k : ℕ) → segment_data setup.mtu (joint_pdu setup.mtu a b).bytes (suc k) ≡ segment_data setup.mtu b.pdu.bytes (suc k)
  unfolding segment_data
  later_data k = ap (take setup.mtu) (
      ap (λ (n : ℕ). drop n (joint_pdu setup.mtu a b).bytes) (let e : suc k * setup.mtu ≡ length (take setup.mtu a.pdu.bytes) + k * setup.mtu = omega (arith, front_length) in e)
      ∙ drop-append-add (take setup.mtu a.pdu.bytes) (drop setup.mtu b.pdu.bytes) (k * setup.mtu)
      ∙ drop-drop (k * setup.mtu) setup.mtu b.pdu.bytes
      ∙ ap (λ (n : ℕ). drop n b.pdu.bytes) (let e : setup.mtu + k * setup.mtu ≡ suc k * setup.mtu = omega arith in e)
      )

  first_data : segment_data setup.mtu (joint_pdu setup.mtu a b).bytes 0 ≡ segment_data setup.mtu a.pdu.bytes 0
  unfolding segment_data
  first_data = rw (zero-mul setup.mtu) (take_at (take setup.mtu a.pdu.bytes) (drop setup.mtu b.pdu.bytes) setup.mtu front_length)

  first_packet : packet_of (heading_for setup flow (joint_sent setup.mtu a b)) setup.mtu (joint_pdu setup.mtu a b).bytes 0
      ≡ packet_of (heading_for setup flow a) setup.mtu a.pdu.bytes 0
  unfolding is_first is_final field_of
  first_packet =
      same-packet setup flow (joint_sent setup.mtu a b) a 0
      (ne_eqb (0 + 1) (packet_count setup.mtu (joint_sent setup.mtu a b)) (λ e. omega (arith, j.several, ap (segment_count setup.mtu) same_length))
      ∙ sym (ne_eqb (0 + 1) (packet_count setup.mtu a) (λ e. omega (arith, j.two))))
      refl first_data

  later-packet : (k : ℕ) → packet_of (heading_for setup flow (joint_sent setup.mtu a b)) setup.mtu (joint_pdu setup.mtu a b).bytes (suc k)
      ≡ packet_of (heading_for setup flow b) setup.mtu b.pdu.bytes (suc k)
  unfolding is_first is_final
  later-packet k =
      let final : is_final setup.mtu (joint_pdu setup.mtu a b).bytes (suc k) ≡ is_final setup.mtu b.pdu.bytes (suc k) = ap
      (λ (n : ℕ). eqb (suc k + 1) (segment_count setup.mtu n)) same_length in
      same-packet setup flow (joint_sent setup.mtu a b) b (suc k)
      final (field (is_final setup.mtu (joint_pdu setup.mtu a b).bytes (suc k)) (is_final setup.mtu b.pdu.bytes (suc k)) final) (later_data k)
    where
      field : (l l' : Bool) → l ≡ l' → field_of (is_first (suc k)) l a.pdu.stream (length (joint_pdu setup.mtu a b).bytes) ≡ field_of (is_first (suc k)) l' b.pdu.stream (length b.pdu.bytes)
      field l l' e = unfold field_of in rw (ne_eqb (suc k) 0 (λ z. omega arith), e, same_length)

  later-packets : (n k : ℕ) → packets_from setup flow (joint_sent setup.mtu a b) (suc k) n ≡ packets_from setup flow b (suc k) n
  later-packets zero k = refl
  later-packets (suc n) k =
      ap (λ (p : List ℕ). p ∷ packets_from setup flow (joint_sent setup.mtu a b) (suc (suc k)) n) (later-packet k)
      ∙ ap (λ (l : List (List ℕ)). packet_of (heading_for setup flow b) setup.mtu b.pdu.bytes (suc k) ∷ l) (later-packets n (suc k))

  -- the first's start arrives, since its end is the one that is lost
  start_arrives : is_lost a 0 ≡ false
  start_arrives = go (is_lost a 0) refl
    where
      one : losses_from a.lost 0 2 ≡ 1
      one = subst (λ (c : ℕ). losses_from a.lost 0 c ≡ 1) j.two pair.first_loses

      go : (t : Bool) → is_lost a 0 ≡ t → t ≡ false
      go true e = absurd (omega (arith, count_lost a.lost 0 1 0 e one, lost_counts a.lost 1 1 1 j.end_lost_lem (omega arith) (omega arith)))
      go false e = refl

  first_left : (more : List Put)
      → arriving (puts_from setup flow a 0 (packet_count setup.mtu a) ++ more) ≡ packet_of (heading_for setup flow a) setup.mtu a.pdu.bytes 0 ∷ arriving more
  first_left more =
      subst (λ (c : ℕ). arriving (puts_from setup flow a 0 c ++ more) ≡ packet_of (heading_for setup flow a) setup.mtu a.pdu.bytes 0 ∷ arriving more) (sym j.two)
      (arriving-seen setup flow a more 0 (put_of setup flow a 1 ∷ more) start_arrives
      ∙ ap (λ (l : List (List ℕ)). packet_of (heading_for setup flow a) setup.mtu a.pdu.bytes 0 ∷ l) (arriving_lost setup flow a more 1 more j.end_lost_lem))

  second_left : (n : ℕ) → packet_count setup.mtu b ≡ suc n → arriving (puts_from setup flow b 0 (packet_count setup.mtu b) ++ []) ≡ packets_from setup flow b 1 n ++ []
  second_left n e =
      let one : losses_from b.lost 0 (suc n) ≡ 1 = subst (λ (c : ℕ). losses_from b.lost 0 c ≡ 1) e pair.second_loses in
      subst (λ (c : ℕ). arriving (puts_from setup flow b 0 c ++ []) ≡ packets_from setup flow b 1 n ++ []) (sym e)
      (arriving_lost setup flow b [] 0 (puts_from setup flow b 1 n ++ []) j.start_lost_lem
      ∙ all_arrive setup flow b [] n 1 (count_lost b.lost 0 n 0 j.start_lost_lem one))

  joint_left : (n : ℕ) → packet_count setup.mtu b ≡ suc n
      → arriving (flow_puts setup flow (joint_sent setup.mtu a b ∷ [])) ≡ packet_of (heading_for setup flow (joint_sent setup.mtu a b)) setup.mtu (joint_pdu setup.mtu a b).bytes 0 ∷
      (packets_from setup flow (joint_sent setup.mtu a b) 1 n ++ [])
  joint_left n e =
      let count : packet_count setup.mtu (joint_sent setup.mtu a b) ≡ suc n = ap (segment_count setup.mtu) same_length ∙ e in
      all_arrive setup flow (joint_sent setup.mtu a b) [] (packet_count setup.mtu (joint_sent setup.mtu a b)) 0 (no_losses 0 (packet_count setup.mtu (joint_sent setup.mtu a b)))
      ∙ ap (λ (c : ℕ). packets_from setup flow (joint_sent setup.mtu a b) 0 c ++ []) count

  same-packets : pair_packets setup flow a b ≡ arriving (flow_puts setup flow (joint_sent setup.mtu a b ∷ []))
  same-packets = go (packet_count setup.mtu b) refl
    where
      go : (c : ℕ) → packet_count setup.mtu b ≡ c → pair_packets setup flow a b ≡ arriving (flow_puts setup flow (joint_sent setup.mtu a b ∷ []))
      go zero e = absurd (omega (arith, j.several))
      go (suc n) e =
          first_left (puts_from setup flow b 0 (packet_count setup.mtu b) ++ [])
          ∙ ap (λ (l : List (List ℕ)). packet_of (heading_for setup flow a) setup.mtu a.pdu.bytes 0 ∷ l)
          (second_left n e ∙ ap (λ (l : List (List ℕ)). l ++ []) (sym (later-packets n 0)))
          ∙ ap (λ (p : List ℕ). p ∷ (packets_from setup flow (joint_sent setup.mtu a b) 1 n ++ [])) (sym first_packet)
          ∙ sym (joint_left n e)

  joint-fair : FairPDU setup.room (joint_sent setup.mtu a b)
  joint-fair = record {
    stream = pair.first_fair.stream;
    bytes =
        bytes_append (take setup.mtu a.pdu.bytes) (drop setup.mtu b.pdu.bytes) (bytes_take setup.mtu a.pdu.bytes pair.first_fair.bytes)
        (bytes_drop setup.mtu b.pdu.bytes pair.second_fair.bytes);
    some_byte = omega (arith, same_length, pair.second_fair.some_byte);
    fits = omega (arith, same_length, pair.second_fair.fits);
  }

-- ---- One flow with a turn for each packet: all that it has is put on, in order

module _ (flow : Flow) where
  -- the turn moves the queue by one
  moved : (queue : Flow → List Put) (x : Put) (xs : List Put) → queue flow ≡ x ∷ xs → advance queue flow flow ≡ xs
  moved queue x xs e = rw (same_refl flow) (ap tail e)

  turns_leave : (xs : List Put) (queue : Flow → List Put) → queue flow ≡ xs → packets_left (events queue (replicate (length xs) (next flow))) ≡ arriving xs
  turns_leave [] queue e = refl
  turns_leave (x ∷ xs) queue e =
      ap (λ (l : List Put). packets_left (next_event flow l ++ events (advance queue flow) (replicate (length xs) (next flow)))) e
      ∙ ap (λ (l : List (List ℕ)). cond x.lost l (x.packet ∷ l)) (turns_leave xs (advance queue flow) (moved queue x xs e))

  -- the PDUs of the flow, as deliveries
  abbrev of_flow : List PDU → List Delivery
  of_flow ps = map (delivery flow) ps

  told : (w : Option PDU) (ps : List PDU) → tell flow w (of_flow ps) ≡ of_flow (also w ps)
  told none ps = refl
  told (some p) ps = refl

  turns_whole : (xs : List Put) (queue : Flow → List Put) → queue flow ≡ xs → wholes (events queue (replicate (length xs) (next flow))) ≡ of_flow (completed xs)
  turns_whole [] queue e = refl
  turns_whole (x ∷ xs) queue e =
      ap (λ (l : List Put). wholes (next_event flow l ++ events (advance queue flow) (replicate (length xs) (next flow)))) e
      ∙ (ap (tell flow x.whole) (turns_whole xs (advance queue flow) (moved queue x xs e)) ∙ told x.whole (completed xs))

  module _ (setup : Setup) (sent : List Sent) where
    queue-is : queues setup (in_turn setup flow sent) flow ≡ flow_puts setup flow sent
    queue-is = ap (λ (b : Bool). flow_puts setup flow (cond b sent [])) (same_refl flow)

    in_turn_leaves : packets setup (in_turn setup flow sent) ≡ arriving (flow_puts setup flow sent)
    in_turn_leaves = turns_leave (flow_puts setup flow sent) (queues setup (in_turn setup flow sent)) queue-is

    in_turn-whole : bad_mtu setup.mtu ≡ false → Each (FairPDU setup.room) sent → whole setup (in_turn setup flow sent) ≡ of_flow (intact setup.mtu sent)
    in_turn-whole allowed fair =
        turns_whole (flow_puts setup flow sent) (queues setup (in_turn setup flow sent)) queue-is ∙ ap of_flow (flow_completed setup flow allowed sent fair)

turns_fair : (setup : Setup) (n : ℕ) (flow : Flow) → Each (FairTurn setup) (replicate n (next flow))
turns_fair setup zero flow = tt
turns_fair setup (suc n) flow = (tt, turns_fair setup n flow)

one_lost : (mtu : ℕ) (s : Sent) → losses mtu s ≡ 1 → is_whole mtu s ≡ false
one_lost mtu s e = ne_eqb (losses mtu s) 0 (λ z. omega (arith, e, z))

pub joint_untold : JointUntold
joint_untold setup flow a b pair test =
    let one = joint_sent setup.mtu a b in
    let none_lost : losses setup.mtu (joint_sent setup.mtu a b) ≡ 0 = no_losses 0 (packet_count setup.mtu (joint_sent setup.mtu a b)) in
    let fair = joint-fair setup flow a b pair test in
    record {
      two_sent_fairly = sent_fairly (a ∷ b ∷ []) (pair.first_fair, (pair.second_fair, tt));
      two_one_loss = ((omega (arith, pair.first_loses), (omega (arith, pair.second_loses), tt)), tt);
      two_neighbours = λ h. neither-whole (is_whole setup.mtu a) (is_whole setup.mtu b) (one_lost setup.mtu a pair.first_loses) (one_lost setup.mtu b pair.second_loses) h.0.0;
      two_leave = in_turn_leaves flow setup (a ∷ b ∷ []);
      two_whole =
          in_turn-whole flow setup (a ∷ b ∷ []) pair.ranges.allowed.allowed_MTU (pair.first_fair, (pair.second_fair, tt))
          ∙ two (is_whole setup.mtu a) (is_whole setup.mtu b) (one_lost setup.mtu a pair.first_loses) (one_lost setup.mtu b pair.second_loses);
      fair = record {
        sent_fairly = sent_fairly (joint_sent setup.mtu a b ∷ []) (fair, tt);
        one_loss = ((omega (arith, none_lost), tt), tt);
        neighbours = (tt, tt);
      };
      leaves = in_turn_leaves flow setup (joint_sent setup.mtu a b ∷ []) ∙ sym (same-packets setup flow a b pair test);
      is_whole_lem =
          in_turn-whole flow setup (joint_sent setup.mtu a b ∷ []) pair.ranges.allowed.allowed_MTU (fair, tt)
          ∙ alone (is_whole setup.mtu (joint_sent setup.mtu a b)) (eq-eqb (losses setup.mtu (joint_sent setup.mtu a b)) 0 none_lost);
    }
  where
    sent_fairly : (sent : List Sent) → Each (FairPDU setup.room) sent → FairlySent setup (in_turn setup flow sent)
    sent_fairly sent fair = record {
      sixteen = omega arith;
      flows = (record { source = pair.ranges.source; priority = pair.ranges.priority; cos = pair.ranges.cos; PDUs = fair }, tt);
      turns = turns_fair setup (length (flow_puts setup flow sent)) flow;
    }

    neither-whole : (v w : Bool) → v ≡ false → w ≡ false → (v || w) ≡ true → ⊥
    neither-whole v w e f h = false≢true (sym (rw (e, f) at (sym h)))

    two : (v w : Bool) → v ≡ false → w ≡ false → of_flow flow (cond v (a.pdu ∷ cond w (b.pdu ∷ []) []) (cond w (b.pdu ∷ []) [])) ≡ []
    two v w e f = rw (e, f)

    alone : (v : Bool) → v ≡ true → of_flow flow (cond v (joint_pdu setup.mtu a b ∷ []) []) ≡ delivery flow (joint_pdu setup.mtu a b) ∷ []
    alone v e = rw e

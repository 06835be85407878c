-- Two neighbours that each lose one packet, one by one. The first leaves the flow closed unless only its last packet is lost; then the flow has the
-- packets before it. From closed, or where its first packet arrives, the second delivers nothing, since it lost something. Otherwise its
-- continuations and its end are joined to what the first left, and the end's length fits exactly if the first left MTU bytes.
use Prim.Native.Nat.{ℕ, zero, suc, ◌+◌, ◌*◌, ◌≤◌, ◌<◌}
use mathlib.Core.Path.{◌≡◌, refl, sym, ap, ◌∙◌, subst}
use mathlib.Core.Logic.{◌⊎◌, inr}
use mathlib.Core.List.{List, [], ◌∷◌, ◌++◌, append_assoc, append-nil}
use mathlib.Core.Bool.{Bool, true, false, cond, ◌&&◌}
use mathlib.Core.Option.{Option, none, some}
use native.Mathlib.Omega.{arith}
use native.Mathlib.Decide.{dec_le}
use native.Mathlib.Nat.{suc-mul, one-mul}
use lib.ListN.{length, take, drop, length-append, length-drop, take-append-drop}
use lib.Seq.{length-take-le, take_all, drop-drop}
use lib.Dec.{eqb, leb}
use borrow.Author.Tests.{eqb-true, ne_eqb, le-leb}
use Rattle.wire.specs.declared.Flow.{Flow}
use Rattle.cutting.specs.Cutting.{segment_data, packet_of}
use Rattle.wire.specs.declared.Setup.{Setup}
use Rattle.flows.specs.OneFlow.{PDU, pdu, Told, held, delivered, refused, FlowOutcome, flow_outcome}
use Rattle.sending.specs.Sending.{Sent, is_lost, packet_count, losses_from, losses, is_whole, Put, heading_for, put_of, puts_from, FairPDU, Ranges}
use Rattle.sending.specs.OneFlow.{packet_step, delivered_pdu, also}
use Rattle.sending.proofs.Losses.{count_lost, count_seen, none_lost, lost_counts}
use Rattle.sending.proofs.Steps.{some-packet, last_size, inner_size, data_behind, at-start, at_inner, at_last, at_last_wrong, at_closed, at-over, last_closes}
use Rattle.sending.proofs.OneFlow.{after_put, Good, short_in, whole-lossy}
use Rattle.sending.proofs.Runs.{gives, leaves, completed, good-gives}

module _ (setup : Setup) (flow : Flow) (ranges : Ranges setup flow) (s : Sent) (fair : FairPDU setup.room s) where
  abbrev bytes : List ℕ
  bytes = s.pdu.bytes

  abbrev packet : ℕ → List ℕ
  packet k = packet_of (heading_for setup flow s) setup.mtu s.pdu.bytes k

  abbrev put : ℕ → Put
  put k = put_of setup flow s k

  abbrev puts : ℕ → ℕ → List Put
  puts k n = puts_from setup flow s k n

  -- packet k is lost, or it arrives
  gives_lost : (k : ℕ) (o : Option PDU) (xs : List Put) → is_lost s k ≡ true → gives setup o (put k ∷ xs) ≡ gives setup o xs
  unfolding put_of
  gives_lost k o xs e = rw e

  gives-seen : (k : ℕ) (o o' : Option PDU) (told : Told) (dropped : Bool) (xs : List Put) → is_lost s k ≡ false → packet_step setup o (packet k) ≡ flow_outcome o' told dropped
      → gives setup o (put k ∷ xs) ≡ also (delivered_pdu told) (gives setup o' xs)
  unfolding put_of
  gives-seen k o o' told dropped xs e step = rw (e, step)

  leaves_lost : (k : ℕ) (o : Option PDU) (xs : List Put) → is_lost s k ≡ true → leaves setup o (put k ∷ xs) ≡ leaves setup o xs
  unfolding put_of
  leaves_lost k o xs e = rw e

  leaves_seen : (k : ℕ) (o o' : Option PDU) (xs : List Put) → is_lost s k ≡ false → (packet_step setup o (packet k)).next ≡ o' → leaves setup o (put k ∷ xs) ≡ leaves setup o' xs
  unfolding put_of
  leaves_seen k o o' xs e step = rw (e, step)

  -- the last packet arrives: the flow is left closed
  leaves_closed : (n k : ℕ) (o : Option PDU) → k + suc n ≡ packet_count setup.mtu s → ((last : ℕ) → suc last ≡ packet_count setup.mtu s → is_lost s last ≡ false)
      → leaves setup o (puts k (suc n)) ≡ none
  leaves_closed zero k o e arrives = leaves_seen k o none [] (arrives k (omega arith)) (last_closes setup flow ranges s fair k o (omega arith))
  leaves_closed (suc n) k o e arrives = leaves_closed n (suc k) (after_put setup o (put k)) (omega arith) arrives

  -- only the last is lost: the flow is left with all before it
  abbrev before : ℕ → PDU
  before k = pdu s.pdu.stream (take (k * setup.mtu) bytes)

  leaves_open : (n k last : ℕ) → suc k + suc n ≡ packet_count setup.mtu s → suc last ≡ packet_count setup.mtu s → is_lost s last ≡ true → losses_from s.lost (suc k) (suc n) ≡ 1
      → leaves setup (some (before (suc k))) (puts (suc k) (suc n)) ≡ some (before last)
  leaves_open zero k last e l lost one =
      let q : suc k ≡ last = omega arith in
      leaves_lost (suc k) (some (before (suc k))) [] (ap (is_lost s) q ∙ lost) ∙ ap (λ (j : ℕ). some (before j)) q
  leaves_open (suc n) k last e l lost one = go (is_lost s (suc k)) refl (λ rest. leaves_open n (suc k) last (omega arith) l lost rest)
    where
      go : (t : Bool) → is_lost s (suc k) ≡ t
          → (losses_from s.lost (suc (suc k)) (suc n) ≡ 1 → leaves setup (some (before (suc (suc k)))) (puts (suc (suc k)) (suc n)) ≡ some (before last))
          → leaves setup (some (before (suc k))) (puts (suc k) (suc (suc n))) ≡ some (before last)
      go true t rest =
          let c = lost_counts s.lost (suc n) (suc (suc k)) last lost (omega arith) (omega arith) in
          absurd (omega (arith, count_lost s.lost (suc k) (suc n) 0 t one))
      go false t rest =
          let inner : suc (suc k) < packet_count setup.mtu s = omega arith in
          let size = inner_size setup flow ranges s fair (suc k) inner in
          let so_far : length (take (suc k * setup.mtu) bytes) ≡ suc k * setup.mtu = length-take-le (suc k * setup.mtu) bytes (omega arith) in
          leaves_seen (suc k) (some (before (suc k))) (some (before (suc (suc k)))) (puts (suc (suc k)) (suc n)) t
          (ap (λ (x : FlowOutcome). x.next) (at_inner setup flow ranges s fair k (before (suc k)) inner (omega (arith, fair.fits)))
          ∙ ap (λ (x : List ℕ). some (pdu s.pdu.stream x)) (data_behind setup flow ranges s fair (suc k)))
          ∙ rest (count_seen s.lost (suc k) (suc n) 1 t one)

  -- ---- what the first leaves

  not_joint : (count : ℕ) (lost : Bool) → (count ≡ 2 → lost ≡ false) → (eqb count 2 && lost) ≡ false
  not_joint count lost why = go (eqb count 2) refl
    where
      go : (t : Bool) → eqb count 2 ≡ t → (t && lost) ≡ false
      go true e = why (eqb-true count 2 e)
      go false e = refl

  pub data FirstLeaves : Type 0 where
    closed : leaves setup none (puts 0 (packet_count setup.mtu s)) ≡ none → (eqb (packet_count setup.mtu s) 2 && is_lost s 1) ≡ false → FirstLeaves
    opened : (l : ℕ) → suc (suc l) ≡ packet_count setup.mtu s → is_lost s (suc l) ≡ true → leaves setup none (puts 0 (packet_count setup.mtu s)) ≡ some (before (suc l)) → FirstLeaves

  pub first_leaves : losses setup.mtu s ≡ 1 → FirstLeaves
  first_leaves one = go (packet_count setup.mtu s) refl one
    where
      -- the last packet arrives
      arrives : (m : ℕ) → suc m ≡ packet_count setup.mtu s → is_lost s m ≡ false → FirstLeaves
      arrives m e seen =
          closed
          (subst (λ (c : ℕ). leaves setup none (puts 0 c) ≡ none) e
          (leaves_closed m 0 none (omega arith) (λ last l. ap (is_lost s) (let q : last ≡ m = omega arith in q) ∙ seen)))
          (not_joint (packet_count setup.mtu s) (is_lost s 1) (λ two. ap (is_lost s) (let q : 1 ≡ m = omega arith in q) ∙ seen))

      -- it is lost, and it is not the first
      stays : (n : ℕ) → suc (suc n) ≡ packet_count setup.mtu s → is_lost s (suc n) ≡ true → losses_from s.lost 0 (suc (suc n)) ≡ 1 → (t : Bool) → is_lost s 0 ≡ t → FirstLeaves
      stays n e lost l true first =
          let c = lost_counts s.lost (suc n) 1 (suc n) lost (omega arith) (omega arith) in
          absurd (omega (arith, count_lost s.lost 0 (suc n) 0 first l))
      stays n e lost l false first =
          opened n e lost
          (subst (λ (c : ℕ). leaves setup none (puts 0 c) ≡ some (before (suc n))) e
          (leaves_seen 0 none (some (before 1)) (puts 1 (suc n)) first (ap (λ (x : FlowOutcome). x.next) (at-start setup flow ranges s fair none (omega arith)))
          ∙ leaves_open n 0 (suc n) (omega arith) e lost (count_seen s.lost 0 (suc n) 1 first l)))

      go : (c : ℕ) → c ≡ packet_count setup.mtu s → losses_from s.lost 0 c ≡ 1 → FirstLeaves
      go zero e l = absurd (omega arith)
      go (suc zero) e l = single (is_lost s 0) refl
        where
          single : (t : Bool) → is_lost s 0 ≡ t → FirstLeaves
          single true lost =
              closed (subst (λ (c : ℕ). leaves setup none (puts 0 c) ≡ none) e (leaves_lost 0 none [] lost)) (not_joint (packet_count setup.mtu s) (is_lost s 1) (λ two. absurd (omega arith)))
          single false lost = arrives 0 e lost
      go (suc (suc n)) e l = several (is_lost s (suc n)) refl
        where
          several : (t : Bool) → is_lost s (suc n) ≡ t → FirstLeaves
          several true lost = stays n e lost l (is_lost s 0) refl
          several false lost = arrives (suc n) e lost

  -- ---- what the second gives

  lossy : losses setup.mtu s ≡ 1 → is_whole setup.mtu s ≡ false
  lossy one = ne_eqb (losses setup.mtu s) 0 (λ e. omega arith)

  none-completed : is_whole setup.mtu s ≡ false → (n k : ℕ) → completed (puts k n) ≡ []
  none-completed w zero k = refl
  none-completed w (suc n) k = rw (whole-lossy setup flow ranges s fair [] k w) (none-completed w n (suc k))

  -- from closed, or where its first packet arrives: nothing
  pub gives_nothing : losses setup.mtu s ≡ 1 → (o : Option PDU) → (o ≡ none) ⊎ (is_lost s 0 ≡ false) → gives setup o (puts 0 (packet_count setup.mtu s)) ≡ []
  gives_nothing one o why =
      let g = short_in setup flow ranges s fair [] (lossy one) (λ o'. tt) o why in
      good-gives setup flow (puts 0 (packet_count setup.mtu s)) o (subst (Good setup flow o) (append-nil (puts 0 (packet_count setup.mtu s))) g)
      ∙ none-completed (lossy one) (packet_count setup.mtu s) 0

  -- closed, from its second packet on: nothing
  gives_closed : (n k : ℕ) → suc k + n ≡ packet_count setup.mtu s → gives setup none (puts (suc k) n) ≡ []
  gives_closed zero k e = refl
  gives_closed (suc n) k e = go (is_lost s (suc k)) refl (gives_closed n (suc k) (omega arith))
    where
      go : (t : Bool) → is_lost s (suc k) ≡ t → gives setup none (puts (suc (suc k)) n) ≡ [] → gives setup none (puts (suc k) (suc n)) ≡ []
      go true t rest = gives_lost (suc k) none (puts (suc (suc k)) n) t ∙ rest
      go false t rest = gives-seen (suc k) none none (refused 8) false (puts (suc (suc k)) n) t (at_closed setup flow ranges s fair k (omega arith)) ∙ rest

  -- what is behind packet k
  behind_last : (k : ℕ) → suc k ≡ packet_count setup.mtu s → segment_data setup.mtu bytes k ≡ drop (k * setup.mtu) bytes
  unfolding segment_data
  behind_last k e = let z = last_size setup flow ranges s fair k e in take_all setup.mtu (drop (k * setup.mtu) bytes) (simp length-drop (omega arith))

  behind_inner : (k : ℕ) → segment_data setup.mtu bytes k ++ drop (suc k * setup.mtu) bytes ≡ drop (k * setup.mtu) bytes
  unfolding segment_data
  behind_inner k =
      ap (λ (x : List ℕ). take setup.mtu (drop (k * setup.mtu) bytes) ++ x) (ap (λ (j : ℕ). drop j bytes) (suc-mul k setup.mtu) ∙ sym (drop-drop setup.mtu (k * setup.mtu) bytes))
      ∙ take-append-drop setup.mtu (drop (k * setup.mtu) bytes)

  -- behind as many bytes as its own packets before k had, the rest makes a PDU
  gives-joined : (n k : ℕ) (p : PDU) → suc k + suc n ≡ packet_count setup.mtu s → losses_from s.lost (suc k) (suc n) ≡ 0 → length p.bytes ≡ suc k * setup.mtu
      → gives setup (some p) (puts (suc k) (suc n)) ≡ pdu p.stream (p.bytes ++ drop (suc k * setup.mtu) bytes) ∷ []
  gives-joined zero k p e l so_far =
      let last : suc (suc k) ≡ packet_count setup.mtu s = omega arith in
      gives-seen (suc k) (some p) none (delivered (pdu p.stream (p.bytes ++ segment_data setup.mtu bytes (suc k)))) false [] (none_lost s.lost (suc k) 0 l).0
      (at_last setup flow ranges s fair k p last so_far)
      ∙ ap (λ (x : List ℕ). pdu p.stream (p.bytes ++ x) ∷ []) (behind_last (suc k) last)
  gives-joined (suc n) k p e l so_far =
      let inner : suc (suc k) < packet_count setup.mtu s = omega arith in
      let size = inner_size setup flow ranges s fair (suc k) inner in
      let here = none_lost s.lost (suc k) (suc n) l in
      let longer : PDU = pdu p.stream (p.bytes ++ segment_data setup.mtu bytes (suc k)) in
      let longer_is : length longer.bytes ≡ length p.bytes + length (segment_data setup.mtu bytes (suc k)) = length-append p.bytes (segment_data setup.mtu bytes (suc k)) in
      gives-seen (suc k) (some p) (some longer) held false (puts (suc (suc k)) (suc n)) here.0 (at_inner setup flow ranges s fair k p inner (omega (arith, fair.fits)))
      ∙ gives-joined n (suc k) longer (omega arith) here.1 (omega arith)
      ∙ ap (λ (x : List ℕ). pdu p.stream x ∷ []) (append_assoc p.bytes (segment_data setup.mtu bytes (suc k)) (drop (suc (suc k) * setup.mtu) bytes))
      ∙ ap (λ (x : List ℕ). pdu p.stream (p.bytes ++ x) ∷ []) (behind_inner (suc k))

  -- behind more bytes than that: nothing, by 9 or 11
  gives-too_long : (n k : ℕ) (p : PDU) → suc k + suc n ≡ packet_count setup.mtu s → losses_from s.lost (suc k) (suc n) ≡ 0 → suc k * setup.mtu < length p.bytes
      → gives setup (some p) (puts (suc k) (suc n)) ≡ []
  gives-too_long zero k p e l long = go (dec_le (length p.bytes + length (segment_data setup.mtu bytes (suc k))) setup.room)
    where
      go : Dec (length p.bytes + length (segment_data setup.mtu bytes (suc k)) ≤ setup.room) → gives setup (some p) (puts (suc k) 1) ≡ []
      go (yes room) = gives-seen (suc k) (some p) none (refused 11) true [] (none_lost s.lost (suc k) 0 l).0 (at_last_wrong setup flow ranges s fair k p (omega arith) room (λ t. omega arith))
      go (no over) = gives-seen (suc k) (some p) none (refused 9) true [] (none_lost s.lost (suc k) 0 l).0 (at-over setup flow ranges s fair k p (omega arith) (omega arith))
  gives-too_long (suc n) k p e l long =
      go (dec_le (length p.bytes + length (segment_data setup.mtu bytes (suc k))) setup.room) (λ q h. gives-too_long n (suc k) q (omega arith) (none_lost s.lost (suc k) (suc n) l).1 h)
    where
      inner : suc (suc k) < packet_count setup.mtu s
      inner = omega arith

      go : Dec (length p.bytes + length (segment_data setup.mtu bytes (suc k)) ≤ setup.room)
          → ((q : PDU) → suc (suc k) * setup.mtu < length q.bytes → gives setup (some q) (puts (suc (suc k)) (suc n)) ≡ [])
          → gives setup (some p) (puts (suc k) (suc (suc n))) ≡ []
      go (yes room) rest =
          let size = inner_size setup flow ranges s fair (suc k) inner in
          let longer : PDU = pdu p.stream (p.bytes ++ segment_data setup.mtu bytes (suc k)) in
          let longer_is : length longer.bytes ≡ length p.bytes + length (segment_data setup.mtu bytes (suc k)) = length-append p.bytes (segment_data setup.mtu bytes (suc k)) in
          gives-seen (suc k) (some p) (some longer) held false (puts (suc (suc k)) (suc n)) (none_lost s.lost (suc k) (suc n) l).0 (at_inner setup flow ranges s fair k p inner (omega arith))
          ∙ rest longer (omega arith)
      go (no over) rest =
          gives-seen (suc k) (some p) none (refused 9) true (puts (suc (suc k)) (suc n)) (none_lost s.lost (suc k) (suc n) l).0 (at-over setup flow ranges s fair k p (omega arith) (omega arith))
          ∙ gives_closed (suc n) (suc k) (omega arith)

  -- after a flow left open with so many bytes, where its start is lost
  gives-behind : (p : PDU) → losses setup.mtu s ≡ 1 → is_lost s 0 ≡ true → (n : ℕ) → suc (suc n) ≡ packet_count setup.mtu s
      → ((length p.bytes ≡ setup.mtu → gives setup (some p) (puts 0 (packet_count setup.mtu s)) ≡ pdu p.stream (p.bytes ++ drop setup.mtu bytes) ∷ [])
      × (setup.mtu < length p.bytes → gives setup (some p) (puts 0 (packet_count setup.mtu s)) ≡ []))
  gives-behind p one lost n e =
      let others : losses_from s.lost 1 (suc n) ≡ 0 = count_lost s.lost 0 (suc n) 0 lost (subst (λ (c : ℕ). losses_from s.lost 0 c ≡ 1) (sym e) one) in
      let once : 1 * setup.mtu ≡ setup.mtu = one-mul setup.mtu in (
        λ full. subst (λ (c : ℕ). gives setup (some p) (puts 0 c) ≡ pdu p.stream (p.bytes ++ drop setup.mtu bytes) ∷ []) e
            (gives_lost 0 (some p) (puts 1 (suc n)) lost ∙ gives-joined n 0 p (omega arith) others (full ∙ sym once)
            ∙ ap (λ (j : ℕ). pdu p.stream (p.bytes ++ drop j bytes) ∷ []) once),
        λ long. subst (λ (c : ℕ). gives setup (some p) (puts 0 c) ≡ []) e
            (gives_lost 0 (some p) (puts 1 (suc n)) lost ∙ gives-too_long n 0 p (omega arith) others (omega arith)),
      )

  pub gives_after : (p : PDU) → losses setup.mtu s ≡ 1 → (first : Bool)
      → (first ≡ true → length p.bytes ≡ setup.mtu) → (first ≡ false → setup.mtu < length p.bytes)
      → gives setup (some p) (puts 0 (packet_count setup.mtu s)) ≡ cond (first && (leb 2 (packet_count setup.mtu s) && is_lost s 0)) (pdu p.stream (p.bytes ++ drop setup.mtu bytes) ∷ []) []
  gives_after p one first full long = go (is_lost s 0) refl
    where
      off : (a b : Bool) → cond (a && (b && false)) (pdu p.stream (p.bytes ++ drop setup.mtu bytes) ∷ []) [] ≡ []
      off true true = refl
      off true false = refl
      off false b = refl

      off' : (a : Bool) → cond (a && false) (pdu p.stream (p.bytes ++ drop setup.mtu bytes) ∷ []) [] ≡ []
      off' true = refl
      off' false = refl

      several : (f : Bool) → (f ≡ true → length p.bytes ≡ setup.mtu) → (f ≡ false → setup.mtu < length p.bytes) → is_lost s 0 ≡ true → (n : ℕ) → suc (suc n) ≡ packet_count setup.mtu s
          → gives setup (some p) (puts 0 (packet_count setup.mtu s)) ≡ cond (f && true) (pdu p.stream (p.bytes ++ drop setup.mtu bytes) ∷ []) []
      several true full long lost n e = (gives-behind p one lost n e).0 (full refl)
      several false full long lost n e = (gives-behind p one lost n e).1 (long refl)

      by_count : (c : ℕ) → c ≡ packet_count setup.mtu s → is_lost s 0 ≡ true
          → gives setup (some p) (puts 0 (packet_count setup.mtu s)) ≡ cond (first && (leb 2 (packet_count setup.mtu s) && true)) (pdu p.stream (p.bytes ++ drop setup.mtu bytes) ∷ []) []
      by_count zero e lost = absurd (omega (arith, some-packet setup flow ranges s fair))
      by_count (suc zero) e lost =
          subst (λ (c : ℕ). gives setup (some p) (puts 0 c) ≡ cond (first && (leb 2 c && true)) (pdu p.stream (p.bytes ++ drop setup.mtu bytes) ∷ []) []) e
          (gives_lost 0 (some p) [] lost ∙ sym (off' first))
      by_count (suc (suc n)) e lost = rw (le-leb 2 (packet_count setup.mtu s) (omega arith)) (several first full long lost n e)

      go : (t : Bool) → is_lost s 0 ≡ t
          → gives setup (some p) (puts 0 (packet_count setup.mtu s)) ≡ cond (first && (leb 2 (packet_count setup.mtu s) && t)) (pdu p.stream (p.bytes ++ drop setup.mtu bytes) ∷ []) []
      go true t = by_count (packet_count setup.mtu s) refl t
      go false t = gives_nothing one (some p) (inr t) ∙ sym (off first (leb 2 (packet_count setup.mtu s)))

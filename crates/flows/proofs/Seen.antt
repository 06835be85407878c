-- One context changed, and its room at most: what every flow then has on the board.
use Prim.Native.Nat.{ℕ, ◌+◌, ◌*◌, ◌≤◌, ◌<◌}
use native.Mathlib.Omega.{arith}
use mathlib.Core.Path.{◌≡◌, refl, ap, sym, ◌∙◌, subst}
use mathlib.Core.Bool.{true, false, cond, false≢true, true≢false}
use mathlib.Core.Option.{Option, none, some}
use mathlib.Core.List.{List, ◌++◌}
use lib.ListN.{length, set, length-set}
use lib.Dec.{ltb}
use lib.Seq.{get_or-set_same, get_or-set_other}
use borrow.Author.Tests.{lt-ltb, le-ltb}
use Rattle.lists.specs.Bytes.{written}
use Rattle.lists.proofs.Tests.{to_false}
use Rattle.wire.specs.declared.Flow.{Flow}
use Rattle.contexts.specs.declared.StreamContext.{StreamContext}
use Rattle.contexts.specs.State.{closed_stream, is_free_stream, is_of_flow}
use Rattle.flows.specs.OneFlow.{PDU, pdu}
use Rattle.flows.specs.Deliveries.{in_room}
use Rattle.flows.specs.ByFlow.{among}
use Rattle.contexts.proofs.Flows.{of_flow_lem}
use Rattle.flows.proofs.Contexts.{at, own, of_open, made_of, closed_free, free_of_none, first_set, put_closed, Place, here, there, place, Own, found, lacks, own_cases, Once, Inside}
use Rattle.flows.proofs.Rooms.{stored-length, stored-own, stored_apart}

-- what a flow has whose context is c, number i
unfoldable pub seen_at : ℕ → List ℕ → ℕ → StreamContext → Option PDU
seen_at room memory i c = cond (ltb i 16) (some (pdu c.stream (in_room room memory i c.held))) none

-- `view`, by the contexts and the memory
unfoldable pub seen : ℕ → List StreamContext → List ℕ → Flow → Option PDU
unfolding seen_at
seen room cs memory k = seen_at room memory (own cs k) (at cs (own cs k))

pub seen-some : (room : ℕ) (cs : List StreamContext) (memory : List ℕ) (k : Flow) (i : ℕ) (c : StreamContext) → own cs k ≡ i → at cs i ≡ c → i < 16
    → seen room cs memory k ≡ some (pdu c.stream (in_room room memory i c.held))
unfolding seen seen_at
seen-some room cs memory k i c e f h =
    ap (λ (n : ℕ). seen_at room memory n (at cs n)) e ∙ (ap (seen_at room memory i) f ∙ rw (lt-ltb i 16 h))

pub seen_none : (room : ℕ) (cs : List StreamContext) (memory : List ℕ) (k : Flow) → 16 ≤ own cs k → seen room cs memory k ≡ none
unfolding seen seen_at
seen_none room cs memory k h = rw (le-ltb (own cs k) 16 h)

-- A good table over rooms: the sizes, what is held fits, no flow has two contexts, and each is of a flow that occurs.
pub record Sound (room : ℕ) (flows : List Flow) (cs : List StreamContext) (memory : List ℕ) : Type 0 where
  pub size : length cs ≡ 16
  pub rooms : length memory ≡ 16 * room
  pub counts : (i : ℕ) → is_free_stream (at cs i) ≡ false → (at cs i).held ≤ room
  pub once : Once cs
  pub inside : Inside flows cs

-- Context j is flow k's, or serves it next: no other is flow k's, and it is no other flow's.
pub record Mine (cs : List StreamContext) (k : Flow) (j : ℕ) : Type 0 where
  pub only : (i : ℕ) → is_of_flow k (at cs i) ≡ true → i ≡ j
  pub nobody : (l : Flow) → is_of_flow l (at cs j) ≡ true → l ≡ k

-- what an update leaves: a good table, what flow k has, and what the others have
pub record After (room : ℕ) (flows : List Flow) (cs : List StreamContext) (memory : List ℕ) (k : Flow) (cs' : List StreamContext) (memory' : List ℕ) (next : Option PDU) : Type 0 where
  pub sound : Sound room flows cs' memory'
  pub own_is : seen room cs' memory' k ≡ next
  pub others : (l : Flow) → (l ≡ k → ⊥) → seen room cs' memory' l ≡ seen room cs memory l

module _ (room : ℕ) (flows : List Flow) (cs : List StreamContext) (memory : List ℕ) (ok : Sound room flows cs memory) (k : Flow) (member : among k flows ≡ true) where
  -- Context j becomes c, and the memory changes in room j at most.
  module _ (j : ℕ) (mine : Mine cs k j) (c : StreamContext) (memory' : List ℕ) (sits : at (set cs j c) j ≡ c) (for_k : (l : Flow) → is_of_flow l c ≡ true → l ≡ k)
      (small : is_free_stream c ≡ false → c.held ≤ room) (long : length memory' ≡ length memory)
      (apart : (i n : ℕ) → (i ≡ j → ⊥) → n ≤ room → in_room room memory' i n ≡ in_room room memory i n) where
    changed_once : Once (set cs j c)
    changed_once i i' l h h' = go (place cs j c sits i) (place cs j c sits i')
      where
        carry : (n : ℕ) (b : StreamContext) → at (set cs j c) n ≡ b → is_of_flow l (at (set cs j c) n) ≡ true → is_of_flow l b ≡ true
        carry n b e t = ap (is_of_flow l) (sym e) ∙ t

        -- c is flow k's, so another context of its flow is j
        clash : (n : ℕ) → is_of_flow l c ≡ true → is_of_flow l (at cs n) ≡ true → n ≡ j
        clash n t u = mine.only n (ap (λ (f : Flow). is_of_flow f (at cs n)) (sym (for_k l t)) ∙ u)

        go : Place cs j c i → Place cs j c i' → i ≡ i'
        go (here e a) (here e' a') = e ∙ sym e'
        go (here e a) (there f a') = absurd (f (clash i' (carry i c a h) (carry i' (at cs i') a' h')))
        go (there f a) (here e' a') = absurd (f (clash i (carry i' c a' h') (carry i (at cs i) a h)))
        go (there f a) (there f' a') = ok.once i i' l (carry i (at cs i) a h) (carry i' (at cs i') a' h')

    changed_sound : Sound room flows (set cs j c) memory'
    changed_sound = record {
      size = length-set cs j c ∙ ok.size;
      rooms = long ∙ ok.rooms;
      counts = λ i e. count i e (place cs j c sits i);
      once = changed_once;
      inside = λ i l e. flow i l e (place cs j c sits i);
    }
      where
        count : (i : ℕ) → is_free_stream (at (set cs j c) i) ≡ false → Place cs j c i → (at (set cs j c) i).held ≤ room
        count i e (here q a) = subst (λ (b : StreamContext). b.held ≤ room) (sym a) (small (ap is_free_stream (sym a) ∙ e))
        count i e (there q a) = subst (λ (b : StreamContext). b.held ≤ room) (sym a) (ok.counts i (ap is_free_stream (sym a) ∙ e))

        flow : (i : ℕ) (l : Flow) → is_of_flow l (at (set cs j c) i) ≡ true → Place cs j c i → among l flows ≡ true
        flow i l e (here q a) = ap (λ (f : Flow). among f flows) (for_k l (ap (is_of_flow l) (sym a) ∙ e)) ∙ member
        flow i l e (there q a) = ok.inside i l (ap (is_of_flow l) (sym a) ∙ e)

    changed_others : (l : Flow) → (l ≡ k → ⊥) → seen room (set cs j c) memory' l ≡ seen room cs memory l
    changed_others l ne = go (own_cases cs l)
      where
        before : is_of_flow l (at cs j) ≡ false
        before = to_false (is_of_flow l (at cs j)) (λ e. ne (mine.nobody l e))

        now : is_of_flow l c ≡ false
        now = to_false (is_of_flow l c) (λ e. ne (for_k l e))

        same : own (set cs j c) l ≡ own cs l
        same = first_set (is_of_flow l) closed_stream cs j c (before ∙ sym now)

        go : Own cs l → seen room (set cs j c) memory' l ≡ seen room cs memory l
        go (found h t) =
            let i : ℕ = own cs l in
            let a : StreamContext = at cs i in
            let far : i ≡ j → ⊥ = λ e. false≢true (sym before ∙ (ap (λ (n : ℕ). is_of_flow l (at cs n)) (sym e) ∙ t)) in
            let lt : i < 16 = omega (arith, ok.size) in
            seen-some room (set cs j c) memory' l i a same (get_or-set_other cs j i c closed_stream far) lt
            ∙ (ap (λ (b : List ℕ). some (pdu a.stream b)) (apart i a.held far (ok.counts i (of_open l a t)))
            ∙ sym (seen-some room cs memory l i a refl refl lt))
        go (lacks e no_one) = seen_none room (set cs j c) memory' l (omega (arith, ok.size, same)) ∙ sym (seen_none room cs memory l (omega (arith, ok.size)))

    changed_open : is_of_flow k c ≡ true → j < 16 → seen room (set cs j c) memory' k ≡ some (pdu c.stream (in_room room memory' j c.held))
    changed_open h lt = go (own_cases (set cs j c) k)
      where
        this : is_of_flow k (at (set cs j c) j) ≡ true
        this = ap (is_of_flow k) sits ∙ h

        go : Own (set cs j c) k → seen room (set cs j c) memory' k ≡ some (pdu c.stream (in_room room memory' j c.held))
        go (found b t) = seen-some room (set cs j c) memory' k j c (changed_once (own (set cs j c) k) j k t this) sits lt
        go (lacks e no_one) = absurd (no_one j this)

    changed_closed : is_free_stream c ≡ true → seen room (set cs j c) memory' k ≡ none
    changed_closed free = go (own_cases (set cs j c) k)
      where
        go : Own (set cs j c) k → seen room (set cs j c) memory' k ≡ none
        go (found b t) = absurd (at_place (place cs j c sits (own (set cs j c) k)))
          where
            at_place : Place cs j c (own (set cs j c) k) → ⊥
            at_place (here e a) = free_of_none k c free (ap (is_of_flow k) (sym a) ∙ t)
            at_place (there f a) = f (mine.only (own (set cs j c) k) (ap (is_of_flow k) (sym a) ∙ t))
        go (lacks e no_one) = seen_none room (set cs j c) memory' k (omega (arith, length-set cs j c, ok.size))

  -- ---- the three updates
  closed_for : (l : Flow) → is_of_flow l closed_stream ≡ true → l ≡ k
  closed_for l e = free_of_none l closed_stream closed_free e

  closed_small : is_free_stream closed_stream ≡ false → closed_stream.held ≤ room
  closed_small e = absurd (true≢false (sym closed_free ∙ e))

  -- the context closed, and no byte changed
  pub just_closed : (j : ℕ) → Mine cs k j → After room flows cs memory k (set cs j closed_stream) memory none
  just_closed j mine = record {
    sound = changed_sound j mine closed_stream memory (put_closed cs j) closed_for closed_small refl (λ i n ne h. refl);
    own_is = changed_closed j mine closed_stream memory (put_closed cs j) closed_for closed_small refl (λ i n ne h. refl) closed_free;
    others = changed_others j mine closed_stream memory (put_closed cs j) closed_for closed_small refl (λ i n ne h. refl);
  }

  module _ (j : ℕ) (mine : Mine cs k j) (lt : j < 16) (n : ℕ) (bytes : List ℕ) (fit : n + length bytes ≤ room) where
    abbrev memory'' : List ℕ
    memory'' = written memory (j * room + n) bytes

    long : length memory'' ≡ length memory
    long = stored-length room memory ok.rooms j lt n bytes fit

    apart : (i m : ℕ) → (i ≡ j → ⊥) → m ≤ room → in_room room memory'' i m ≡ in_room room memory i m
    apart = stored_apart room memory ok.rooms j lt n bytes fit

    -- bytes stored in room j behind n others, and the context closed
    pub stored_closed : After room flows cs memory k (set cs j closed_stream) memory'' none
    stored_closed = record {
      sound = changed_sound j mine closed_stream memory'' (put_closed cs j) closed_for closed_small long apart;
      own_is = changed_closed j mine closed_stream memory'' (put_closed cs j) closed_for closed_small long apart closed_free;
      others = changed_others j mine closed_stream memory'' (put_closed cs j) closed_for closed_small long apart;
    }

    -- and the context kept
    pub stored-held : (stream : ℕ)
        → After room flows cs memory k (set cs j (record { live = 1; flow = k; stream = stream; held = n + length bytes })) memory'' (some (pdu stream (in_room room memory j n ++ bytes)))
    unfolding is_free_stream
    stored-held stream =
        let c : StreamContext = record { live = 1; flow = k; stream = stream; held = n + length bytes } in
        let sits : at (set cs j c) j ≡ c = get_or-set_same cs j c closed_stream (omega (arith, ok.size)) in
        let for_k : (l : Flow) → is_of_flow l c ≡ true → l ≡ k = λ l e. sym (of_flow_lem l c e) in
        record {
          sound = changed_sound j mine c memory'' sits for_k (λ e. fit) long apart;
          own_is =
              changed_open j mine c memory'' sits for_k (λ e. fit) long apart (made_of k c refl refl) lt
              ∙ ap (λ (b : List ℕ). some (pdu stream b)) (stored-own room memory ok.rooms j lt n bytes fit);
          others = changed_others j mine c memory'' sits for_k (λ e. fit) long apart;
        }

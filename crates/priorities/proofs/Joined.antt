-- The flow of a delivery: at every packet, what an open context holds was joined of packets of its flow.
use Prim.Native.Nat.{ℕ, ◌+◌, ◌*◌, ◌≤◌, ◌<◌}
use native.Mathlib.Omega.{arith}
use native.Mathlib.Decide.{ℕ_discrete}
use mathlib.Core.Path.{◌≡◌, refl, ap, sym, ◌∙◌, subst, subst₂}
use mathlib.Core.Bool.{Bool, true, false, cond, not, ◌&&◌, true≢false}
use mathlib.Core.List.{List, [], ◌∷◌, ◌++◌, map, append_assoc, append-nil}
use lib.ListN.{length, set, length-set}
use lib.Seq.{get_or-set_same}
use lib.Dec.{ltb}
use borrow.Author.Tests.{eq-eqb, ne_eqb, ltb-true, ltb-false, not-false}
use Rattle.lists.specs.Bytes.{AreBytes, written}
use Rattle.lists.specs.Each.{Each}
use Rattle.lists.specs.Rows.{joined}
use Rattle.lists.proofs.Tests.{◌and◌}
use Rattle.lists.proofs.First.{first_passes}
use Rattle.tables.specs.Refusals.{none}
use Rattle.tables.proofs.Cases.{whichever}
use Rattle.answers.specs.Answers.{Said, held, delivered, refused}
use Rattle.wire.specs.declared.Flow.{Flow}
use Rattle.wire.specs.declared.Setup.{Setup}
use Rattle.wire.specs.declared.MessageSegment.{MessageSegment}
use Rattle.wire.specs.Segment.{Segment}
use Rattle.wire.specs.Packet.{ids_of}
use Rattle.wire.specs.Head.{is9}
use Rattle.wire.specs.Parsed.{Parsed, Refused, Stream, Message, parsed}
use Rattle.wire.specs.Type9.{flow_of, segment_of}
use Rattle.wire.proofs.Fields.{begins_is, flow_is}
use Rattle.wire.proofs.HeadLaws.{stream_passed, message_passed}
use Rattle.sizes.specs.Sizes.{data_length}
use Rattle.contexts.specs.declared.StreamContext.{StreamContext}
use Rattle.contexts.specs.State.{State, fresh, stream_in, with_stream, closed_stream, open_stream, is_free_stream, is_of_flow, flow_context, free_stream}
use Rattle.contexts.specs.Words.{state_of, words_of}
use Rattle.contexts.proofs.Words.{sixteen, eight, state_of_lem}
use Rattle.contexts.proofs.Flows.{of_flow_lem}
use Rattle.refusal19.proofs.Good.{good, stream_holds}
use Rattle.stream_rooms.specs.Placing.{Joined, joining, data_of, placed}
use Rattle.streams.specs.Rows.{found_for, flow_open, held_before, not_open, passes_room, none_free, stream_rows}
use Rattle.streams.specs.Joining.{context_for, stream_id, accepted, refused_closing, refused_staying, stream_refusing, stepped}
use Rattle.messages.specs.Joining.{message_stepped}
use Rattle.message_rooms.specs.Placing.{MessageJoined}
use Rattle.reading.specs.Desk.{Desk, state_on}
use Rattle.reading.specs.Table.{lent}
use Rattle.reading.specs.Read.{Settled, of_stream, of_message}
use Rattle.reading.proofs.Packets.{stream_parsed}
use Rattle.flows.specs.Deliveries.{in_room, read, after, desk_after, delivered_by}
use Rattle.flows.specs.Fresh.{Fresh}
use Rattle.flows.proofs.Contexts.{at, within, closed_free, of_open, put_closed, Place, here, there, place}
use Rattle.flows.proofs.Rooms.{stored-length, stored-own, stored_apart}
use Rattle.flows.proofs.Quiet.{Quiet}
use Rattle.flows.proofs.Machine.{data_length_lem}
use Rattle.flows.proofs.Fine.{fresh_at}
use Rattle.flows.proofs.Steady.{Steady, fresh_back, fresh-steady, rooms_on, read_is, still-steady, quiet_read}
use Rattle.priorities.specs.Joined.{is_stored, Parts, with_part, parts_with, parts_after, joined_to, HasFlow, JoinedOf, DeliveredFlow}

-- ---- Packets joined, and one more behind them

abbrev data_in : Setup → List ℕ → List ℕ
data_in setup p = data_of p (segment_of (ids_of setup) p)

each_last : (P : List ℕ → Type 0) (parts : List (List ℕ)) (p : List ℕ) → Each P parts → P p → Each P (parts ++ (p ∷ []))
each_last P [] p e h = (h, tt)
each_last P (x ∷ xs) p e h = (e.0, each_last P xs p e.1 h)

data_last : (setup : Setup) (parts : List (List ℕ)) (p : List ℕ) → joined (map (data_in setup) (parts ++ (p ∷ []))) ≡ joined (map (data_in setup) parts) ++ data_in setup p
unfolding joined
data_last setup [] p = append-nil (data_in setup p)
data_last setup (x ∷ xs) p = ap (λ (l : List ℕ). data_in setup x ++ l) (data_last setup xs p) ∙ sym (append_assoc (data_in setup x) (joined (map (data_in setup) xs)) (data_in setup p))

one-part : (setup : Setup) (flow : Flow) (p : List ℕ) → HasFlow (ids_of setup) flow p → JoinedOf setup flow (data_in setup p) (p ∷ [])
unfolding joined
one-part setup flow p e = record { flows = (e, tt); data_of_lem = sym (append-nil (data_in setup p)) }

one_more : (setup : Setup) (flow : Flow) (bytes : List ℕ) (parts : List (List ℕ)) (p : List ℕ) → JoinedOf setup flow bytes parts → HasFlow (ids_of setup) flow p
    → JoinedOf setup flow (bytes ++ data_in setup p) (parts ++ (p ∷ []))
one_more setup flow bytes parts p j e = record {
  flows = each_last (HasFlow (ids_of setup) flow) parts p j.flows e;
  data_of_lem = ap (λ (l : List ℕ). l ++ data_in setup p) j.data_of_lem ∙ sym (data_last setup parts p);
}

-- ---- What is known at a desk

-- each open context's bytes were joined of packets of its flow
abbrev Made : Setup → (room : ℕ) → List StreamContext → (memory : List ℕ) → Parts → Type 0
Made setup room cs memory parts =
    (n : ℕ) → is_free_stream (at cs n) ≡ false → JoinedOf setup (at cs n).flow (in_room room memory n (at cs n).held) (parts n)

-- packets of one flow
pub record Common (setup : Setup) (parts : List (List ℕ)) : Type 0 where
  pub flow : Flow
  pub each : Each (HasFlow (ids_of setup) flow) parts

record Kept (setup : Setup) (b : Desk) (parts : Parts) : Type 0 where
  steady : Steady setup b
  -- of each context, open or not
  common : (n : ℕ) → Common setup (parts n)
  made : Made setup setup.room (state_on b).streams b.stream_memory parts

-- a refusal delivers nothing
refused_not : {A : Type 0} (number context : ℕ) (flow : Flow) (stream size : ℕ) → refused number ≡ delivered context flow stream size → A
refused_not number context flow stream size e = absurd (let z : ◌≡◌ {A = ℕ} 0 1 = cc in omega arith)

held_not : {A : Type 0} (context : ℕ) (flow : Flow) (stream size : ℕ) → held ≡ delivered context flow stream size → A
held_not context flow stream size e = absurd (let z : ◌≡◌ {A = ℕ} 0 1 = cc in omega arith)

-- ---- One packet

module _ (setup : Setup) (b : Desk) (p : List ℕ) (parts : Parts) (f : Steady setup b) where
  abbrev s : State
  s = state_on b

  abbrev room : ℕ
  room = s.setup.room

  abbrev memory : List ℕ
  memory = b.stream_memory

  abbrev g : Segment
  g = segment_of (ids_of setup) p

  -- the context that p's PDU uses
  abbrev mine : ℕ
  mine = context_for s g

  -- what is joined once p was answered
  abbrev then_parts : Said → Parts
  then_parts says = parts_with setup b p says parts

  elsewhere : (says : Said) (n : ℕ) → (n ≡ mine → ⊥) → then_parts says n ≡ parts n
  elsewhere says n ne = ap (λ (t : Bool). cond (is_stored says && (is9 p && t)) (with_part setup p (parts n)) (parts n)) (ne_eqb n mine ne) ∙ go (is_stored says) (is9 p)
    where
      go : (x y : Bool) → cond (x && (y && false)) (with_part setup p (parts n)) (parts n) ≡ parts n
      go true true = refl
      go true false = refl
      go false y = refl

  -- ---- of type 9
  module _ (so_made : Made setup room s.streams memory parts) (so_common : (n : ℕ) → Common setup (parts n)) (e : parsed setup p ≡ Stream g) where
    nine : is9 p ≡ true
    nine = (stream_passed p setup g e).1

    its_own : (says : Said) (n : ℕ) → is_stored says ≡ true → n ≡ mine → then_parts says n ≡ with_part setup p (parts n)
    its_own says n stored at_mine = rw (stored, nine, eq-eqb n mine at_mine)

    its_flow : HasFlow (ids_of setup) g.flow p
    its_flow =
        let same : flow_of (ids_of setup) p ≡ g.flow = sym (flow_is (ids_of setup) p) in
        record { source = ap (λ (k : Flow). k.source) same; priority = ap (λ (k : Flow). k.priority) same; cos = ap (λ (k : Flow). k.cos) same }

    -- what a type 9 step leaves
    record Left (j : Joined) : Type 0 where
      size : length j.state.streams ≡ 16
      same_messages : j.state.messages ≡ s.messages
      rooms : length j.memory ≡ length memory
      common : (n : ℕ) → Common setup (then_parts j.says n)
      made : Made setup room j.state.streams j.memory (then_parts j.says)
      tells : (context : ℕ) (flow : Flow) (stream size : ℕ) → j.says ≡ delivered context flow stream size
          → JoinedOf setup flow (in_room room j.memory context size) (then_parts j.says context)

    -- refused, and all stays
    staying : (number : ℕ) → Left (refused_staying s memory number)
    unfolding refused_staying
    staying number = record { size = sixteen b.words; same_messages = refl; rooms = refl; common = so_common; made = so_made; tells = λ context flow stream size. refused_not number context flow stream size }

    -- refused, and the flow's context closed
    closing : (number : ℕ) → Left (refused_closing s memory g number)
    unfolding refused_closing
    closing number = record {
      size = length-set s.streams (found_for s g) closed_stream ∙ sixteen b.words;
      same_messages = refl;
      rooms = refl;
      common = so_common;
      made = λ n opened. go n opened (place s.streams (found_for s g) closed_stream (put_closed s.streams (found_for s g)) n);
      tells = λ context flow stream size. refused_not number context flow stream size;
    }
      where
        go : (n : ℕ) → is_free_stream (at (set s.streams (found_for s g) closed_stream) n) ≡ false → Place s.streams (found_for s g) closed_stream n
            → JoinedOf setup (at (set s.streams (found_for s g) closed_stream) n).flow (in_room room memory n (at (set s.streams (found_for s g) closed_stream) n).held) (parts n)
        go n opened (here q shut) = absurd (true≢false (sym closed_free ∙ (ap is_free_stream (sym shut) ∙ opened)))
        go n opened (there q same) =
            subst (λ (c : StreamContext). JoinedOf setup c.flow (in_room room memory n c.held) (parts n)) (sym same) (so_made n (ap is_free_stream (sym same) ∙ opened))

    -- ---- accepted
    module _ (row_8 : not_open s g ≡ false) (row_9 : passes_room s g ≡ false) (row_10 : none_free s g ≡ false) where
      abbrev base : ℕ
      base = held_before s g

      abbrev bytes : List ℕ
      bytes = data_of p g

      in_place : mine < 16
      unfolding not_open none_free
      in_place = go (flow_open s g) refl g.begins row_8 row_10
        where
          go : (o : Bool) → flow_open s g ≡ o → (t : Bool) → (not t && not o) ≡ false → (t && (not o && not (ltb (free_stream s) 16))) ≡ false → cond o (found_for s g) (free_stream s) < 16
          go true o t r r' = ltb-true (found_for s g) 16 o
          go false o true r r' = ltb-true (free_stream s) 16 (not-false (ltb (free_stream s) 16) r')
          go false o false r r' = absurd (true≢false r)

      fits : base + length bytes ≤ room
      unfolding passes_room
      fits = omega (arith, data_length_lem p g (stream_parsed p setup g e).1, ltb-false room (base + data_length g) row_9)

      abbrev stored : List ℕ
      stored = written memory (mine * room + base) bytes

      -- what was there, and p behind it
      so_far : JoinedOf setup g.flow (in_room room memory mine base ++ bytes) (with_part setup p (parts mine))
      unfolding not_open flow_context
      so_far = go g.begins refl (flow_open s g) refl row_8
        where
          go : (t : Bool) → g.begins ≡ t → (o : Bool) → flow_open s g ≡ o → (not t && not o) ≡ false
              → JoinedOf setup g.flow (in_room room memory (cond o (found_for s g) (free_stream s)) (cond t 0 (stream_in s (found_for s g)).held) ++ bytes) (with_part setup p (parts (cond o (found_for s g) (free_stream s))))
          go true t o q r = rw (sym (begins_is (ids_of setup) p) ∙ t) (one-part setup g.flow p its_flow)
          go false t true q r =
              let inside : found_for s g < length s.streams = omega (arith, ltb-true (found_for s g) 16 q, sixteen b.words) in
              let own : is_of_flow g.flow (at s.streams (found_for s g)) ≡ true = first_passes (is_of_flow g.flow) s.streams closed_stream inside in
              let before : JoinedOf setup g.flow (in_room room memory (found_for s g) (stream_in s (found_for s g)).held) (parts (found_for s g)) =
              subst (λ (k : Flow). JoinedOf setup k (in_room room memory (found_for s g) (stream_in s (found_for s g)).held) (parts (found_for s g))) (of_flow_lem g.flow (at s.streams (found_for s g)) own)
              (so_made (found_for s g) (of_open g.flow (at s.streams (found_for s g)) own)) in
              rw (sym (begins_is (ids_of setup) p) ∙ t) (one_more setup g.flow _ (parts (found_for s g)) p before its_flow)
          go false t false q r = absurd (true≢false r)

      -- in the room
      in_room_lem : JoinedOf setup g.flow (in_room room stored mine (base + data_length g)) (with_part setup p (parts mine))
      in_room_lem =
          subst (λ (l : List ℕ). JoinedOf setup g.flow l (with_part setup p (parts mine)))
          (sym (ap (λ (m : ℕ). in_room room stored mine (base + m)) (sym (data_length_lem p g (stream_parsed p setup g e).1)) ∙ stored-own room memory (rooms_on f) mine in_place base bytes fits)) so_far

      -- the other contexts
      others : (says : Said) (n : ℕ) → (n ≡ mine → ⊥) → is_free_stream (at s.streams n) ≡ false
          → JoinedOf setup (at s.streams n).flow (in_room room stored n (at s.streams n).held) (then_parts says n)
      others says n ne opened =
          let small = stream_holds room (at s.streams n) ((good s f.good).streams n (within s.streams n opened)) opened in
          subst (JoinedOf setup (at s.streams n).flow (in_room room stored n (at s.streams n).held)) (sym (elsewhere says n ne))
          (subst (λ (l : List ℕ). JoinedOf setup (at s.streams n).flow l (parts n)) (sym (stored_apart room memory (rooms_on f) mine in_place base bytes fits n (at s.streams n).held ne small.1)) (so_made n opened))

      -- an answer that is stored, and the context as it is left
      left_with : (says : Said) (c : StreamContext) (dropped : Bool) → is_stored says ≡ true
          → (is_free_stream c ≡ false → (c.flow ≡ g.flow) × (c.held ≡ base + data_length g))
          → ((context : ℕ) (flow : Flow) (stream size : ℕ) → says ≡ delivered context flow stream size → (context ≡ mine) × (flow ≡ g.flow) × (size ≡ base + data_length g))
          → Left (joining says dropped (with_stream s mine c) stored)
      left_with says c dropped kept leaves delivers = record {
        size = length-set s.streams mine c ∙ sixteen b.words;
        same_messages = refl;
        rooms = stored-length room memory (rooms_on f) mine in_place base bytes fits;
        common = λ n. one_flow n (ℕ_discrete n mine);
        made = λ n opened. go n opened (place s.streams mine c (sits c) n);
        tells = λ context flow stream size is.
            let d = delivers context flow stream size is in
            subst (λ (n : ℕ). JoinedOf setup flow (in_room room stored n size) (then_parts says n)) (sym d.0)
            (subst (λ (k : Flow). JoinedOf setup k (in_room room stored mine size) (then_parts says mine)) (sym d.1)
            (subst (λ (m : ℕ). JoinedOf setup g.flow (in_room room stored mine m) (then_parts says mine)) (sym d.2) joins));
      }
        where
          sits : (c : StreamContext) → at (set s.streams mine c) mine ≡ c
          sits c = get_or-set_same s.streams mine c closed_stream (omega (arith, in_place, sixteen b.words))

          joins : JoinedOf setup g.flow (in_room room stored mine (base + data_length g)) (then_parts says mine)
          joins = subst (JoinedOf setup g.flow (in_room room stored mine (base + data_length g))) (sym (its_own says mine kept refl)) in_room_lem

          one_flow : (n : ℕ) → Dec (n ≡ mine) → Common setup (then_parts says n)
          one_flow n (yes q) = subst (λ (m : ℕ). Common setup (then_parts says m)) (sym q) (record { flow = g.flow; each = joins.flows })
          one_flow n (no q) = subst (Common setup) (sym (elsewhere says n q)) (so_common n)

          go : (n : ℕ) → is_free_stream (at (set s.streams mine c) n) ≡ false → Place s.streams mine c n
              → JoinedOf setup (at (set s.streams mine c) n).flow (in_room room stored n (at (set s.streams mine c) n).held) (then_parts says n)
          go n opened (here q is) =
              let l = leaves (ap is_free_stream (sym is) ∙ opened) in
              subst (λ (x : StreamContext). JoinedOf setup x.flow (in_room room stored n x.held) (then_parts says n)) (sym is)
              (subst (λ (m : ℕ). JoinedOf setup c.flow (in_room room stored m c.held) (then_parts says m)) (sym q)
              (subst (λ (k : Flow). JoinedOf setup k (in_room room stored mine c.held) (then_parts says mine)) (sym l.0)
              (subst (λ (m : ℕ). JoinedOf setup g.flow (in_room room stored mine m) (then_parts says mine)) (sym l.1) joins)))
          go n opened (there q is) =
              subst (λ (x : StreamContext). JoinedOf setup x.flow (in_room room stored n x.held) (then_parts says n)) (sym is)
              (others says n q (ap is_free_stream (sym is) ∙ opened))

      accepting : Left (accepted s memory p g)
      unfolding accepted placed
      accepting = go g.ends
        where
          go : (t : Bool)
              → Left (joining (cond t (delivered mine g.flow (stream_id s g) (base + data_length g)) held) (g.begins && flow_open s g)
              (with_stream s mine (cond t closed_stream (open_stream g.flow (stream_id s g) (base + data_length g)))) stored)
          go true =
              left_with (delivered mine g.flow (stream_id s g) (base + data_length g)) closed_stream (g.begins && flow_open s g) refl
              (λ opened. absurd (true≢false (sym closed_free ∙ opened)))
              (λ context flow stream size is. (cc, cc, cc))
          go false =
              left_with held (open_stream g.flow (stream_id s g) (base + data_length g)) (g.begins && flow_open s g) refl
              (λ opened. (refl, refl))
              (λ context flow stream size. held_not context flow stream size)

    -- by the rows
    left_stepped : Left (stepped s memory p g)
    unfolding stepped stream_rows none
    left_stepped =
        whichever (stream_refusing s memory g) (accepted s memory p g) Left (stream_rows s g)
        (closing and closing and staying and closing and staying and closing and tt)
        (λ r. accepting r.1.1.0 r.1.1.1.0 r.1.1.1.1.0)

-- ---- At a desk

-- what is answered and left, and what was joined then
abbrev Goal : Setup → Desk → List ℕ → Parts → Settled → Type 0
Goal setup b p parts y =
    Kept setup y.desk (parts_with setup b p y.says parts)
    × ((context : ℕ) (flow : Flow) (stream size : ℕ) → y.says ≡ delivered context flow stream size
    → JoinedOf setup flow (in_room setup.room y.desk.stream_memory context size) (parts_with setup b p y.says parts context))

module _ (setup : Setup) (b : Desk) (p : List ℕ) (parts : Parts) (k : Kept setup b parts) (bytes : AreBytes p) where
  by_refused : (number : ℕ) → parsed setup p ≡ Refused number → Goal setup b p parts (read b p)
  by_refused number e =
      subst (Goal setup b p parts) (sym (read_is k.steady p (Refused number) e)) (record { steady = k.steady; common = k.common; made = k.made }, λ context flow stream size. refused_not number context flow stream size)

  by_stream : parsed setup p ≡ Stream (segment_of (ids_of setup) p) → Goal setup b p parts (read b p)
  by_stream e =
      let j : Joined = stepped (state_on b) b.stream_memory p (segment_of (ids_of setup) p) in
      let here-made : Made setup (state_on b).setup.room (state_on b).streams b.stream_memory parts =
      subst (λ (t : Setup). Made setup t.room (state_on b).streams b.stream_memory parts) (sym k.steady.same-setup) k.made in
      let l : Left setup b p parts k.steady here-made k.common e j = left_stepped setup b p parts k.steady here-made k.common e in
      let back : state_of (words_of j.state) ≡ j.state = state_of_lem j.state l.size (ap length l.same_messages ∙ eight b.words) in
      let same : read b p ≡ of_stream (lent b p) j = read_is k.steady p (Stream (segment_of (ids_of setup) p)) e in
      subst (Goal setup b p parts) (sym same) (
        record {
          steady = still-steady k.steady p bytes (of_stream (lent b p) j) same l.rooms refl refl;
          common = l.common;
          made =
              subst (λ (t : Setup). Made setup t.room (state_of (words_of j.state)).streams j.memory (parts_with setup b p j.says parts)) k.steady.same-setup
              (subst (λ (t : State). Made setup (state_on b).setup.room t.streams j.memory (parts_with setup b p j.says parts)) (sym back) l.made);
        },
        λ context flow stream size is.
            subst (λ (t : Setup). JoinedOf setup flow (in_room t.room j.memory context size) (parts_with setup b p j.says parts context)) k.steady.same-setup (l.tells context flow stream size is),
      )

  by_message : (m : MessageSegment) → parsed setup p ≡ Message m → Goal setup b p parts (read b p)
  by_message m e =
      let j : MessageJoined = message_stepped (state_on b) b.message_memory b.response p m in
      let quiet : Quiet (state_on b) b.message_memory b.response j = quiet_read k.steady p bytes m e in
      let back : state_of (words_of j.state) ≡ j.state = state_of_lem j.state (ap length quiet.same_streams ∙ sixteen b.words) (quiet.messages ∙ eight b.words) in
      let same : read b p ≡ of_message (lent b p) j = read_is k.steady p (Message m) e in
      subst (Goal setup b p parts) (sym same) (
        record {
          steady = still-steady k.steady p bytes (of_message (lent b p) j) same refl quiet.boxes quiet.reply;
          common = λ n. subst (Common setup) (sym (stays j.says n)) (k.common n);
          made = λ n opened.
              subst (JoinedOf setup _ _) (sym (stays j.says n))
              (subst (Made· b.stream_memory) (sym (ap (λ (t : State). t.streams) back ∙ quiet.same_streams)) k.made n opened);
        },
        λ context flow stream size is. silent context flow stream size (ap (delivered_by 0 []) (sym is) ∙ quiet.tells 0 []),
      )
    where
      Made· : List ℕ → List StreamContext → Type 0
      Made· memory cs = Made setup setup.room cs memory parts

      -- nothing is joined
      stays : (says : Said) (n : ℕ) → parts_with setup b p says parts n ≡ parts n
      stays says n = rw (message_passed p setup m e).1 (go (is_stored says))
        where
          go : (x : Bool) → cond (x && false) (with_part setup p (parts n)) (parts n) ≡ parts n
          go true = refl
          go false = refl

      silent : {A : Type 0} (context : ℕ) (flow : Flow) (stream size : ℕ) → delivered_by 0 [] (delivered context flow stream size) ≡ [] → A
      silent context flow stream size none_of = absurd (let z : ◌≡◌ {A = ℕ} 0 1 = cc in omega arith)

  step : Goal setup b p parts (read b p)
  step = go (parsed setup p) refl
    where
      go : (x : Parsed) → parsed setup p ≡ x → Goal setup b p parts (read b p)
      go (Refused number) e = by_refused number e
      go (Stream g) e = by_stream (e ∙ ap Stream (stream_parsed p setup g e).0)
      go (Message m) e = by_message m e

-- ---- Packet after packet, from fresh

kept-after : (setup : Setup) (ps : List (List ℕ)) (b : Desk) (parts : Parts) → Kept setup b parts → Each AreBytes ps → Kept setup (desk_after b ps) (parts_after setup b ps parts)
kept-after setup [] b parts k bytes = k
kept-after setup (p ∷ ps) b parts k bytes =
    kept-after setup ps (after b p) (parts_with setup b p (read b p).says parts) (step setup b p parts k bytes.0).0 bytes.1

fresh_kept : (setup : Setup) (d : Desk) → Fresh setup d → Kept setup d (λ (n : ℕ). [])
fresh_kept setup d f = record {
  steady = fresh-steady setup d f;
  common = λ n. record { flow = closed_stream.flow; each = tt };
  made = λ n opened. absurd (true≢false (sym (all_free n) ∙ opened));
}
  where
    all_free : (n : ℕ) → is_free_stream (at (state_on d).streams n) ≡ true
    all_free n = ap is_free_stream (ap (λ (w : List ℕ). at (state_of w).streams n) f.words ∙ (ap (λ (t : State). at t.streams n) (fresh_back setup) ∙ fresh_at 16 n)) ∙ closed_free

-- of each context the packets have one flow, whatever has come
pub joined_common : (setup : Setup) (d : Desk) (packets : List (List ℕ)) → Fresh setup d → Each AreBytes packets → (n : ℕ) → Common setup (joined_to setup d packets n)
joined_common setup d packets f bytes = (kept-after setup packets d (λ (n : ℕ). []) (fresh_kept setup d f) bytes).common

-- one packet more
desk-behind : (ps : List (List ℕ)) (d : Desk) (p : List ℕ) → desk_after d (ps ++ (p ∷ [])) ≡ after (desk_after d ps) p
desk-behind [] d p = refl
desk-behind (x ∷ ps) d p = desk-behind ps (after d x) p

parts-behind : (setup : Setup) (ps : List (List ℕ)) (d : Desk) (p : List ℕ) (parts : Parts)
    → parts_after setup d (ps ++ (p ∷ [])) parts ≡ parts_with setup (desk_after d ps) p (read (desk_after d ps) p).says (parts_after setup d ps parts)
parts-behind setup [] d p parts = refl
parts-behind setup (x ∷ ps) d p parts = parts-behind setup ps (after d x) p (parts_with setup d x (read d x).says parts)

bytes_behind : (ps : List (List ℕ)) (p : List ℕ) → Each AreBytes (ps ++ (p ∷ [])) → Each AreBytes ps × AreBytes p
bytes_behind [] p e = (tt, e.0)
bytes_behind (x ∷ ps) p e = let rest = bytes_behind ps p e.1 in ((e.0, rest.0), rest.1)

pub delivered_flow : DeliveredFlow
delivered_flow setup d before p context flow stream size f bytes says =
    let parts : Parts = parts_after setup d before (λ (n : ℕ). []) in
    let are = bytes_behind before p bytes in
    let k : Kept setup (desk_after d before) parts = kept-after setup before d (λ (n : ℕ). []) (fresh_kept setup d f) are.0 in
    subst₂ (λ (b : Desk) (x : Parts). JoinedOf setup flow (in_room setup.room b.stream_memory context size) (x context))
    (sym (desk-behind before d p)) (sym (parts-behind setup before d p (λ (n : ℕ). [])))
    ((step setup (desk_after d before) p parts k are.1).1 context flow stream size says)

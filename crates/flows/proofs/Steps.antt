-- A type 9 step on the state does to its flow what the one-flow endpoint does, and to no other flow anything.
use Prim.Native.Nat.{ℕ, ◌+◌, ◌*◌, ◌≤◌, ◌<◌}
use native.Mathlib.Omega.{arith}
use mathlib.Core.Path.{◌≡◌, refl, ap, sym, ◌∙◌, subst, subst₂}
use mathlib.Core.Bool.{Bool, true, false, cond}
use mathlib.Core.Option.{Option, none, some}
use mathlib.Core.List.{List, [], ◌∷◌, ◌++◌}
use lib.ListN.{length, set}
use lib.Dec.{ltb}
use Rattle.std.specs.Prelude.{Some, None}
use borrow.Author.Tests.{lt-ltb, le-ltb, ltb-true, ltb-false}
use Rattle.lists.specs.Bytes.{written}
use Rattle.lists.proofs.First.{first_passes}
use Rattle.answers.specs.Answers as answers
use Rattle.wire.specs.declared.Flow.{Flow}
use Rattle.wire.specs.Segment.{Segment}
use Rattle.sizes.specs.Sizes.{data_length}
use Rattle.rules.specs.Segments.{malformed, wrong_size, wrong_length}
use Rattle.contexts.specs.declared.StreamContext.{StreamContext}
use Rattle.contexts.specs.State.{State, with_stream, closed_stream, is_free_stream, is_of_flow, flow_context, free_stream}
use Rattle.refusal19.specs.Refusal19.{named_by_19}
use Rattle.refusal19.proofs.Good.{good}
use Rattle.streams.specs.Rows.{found_for, missized}
use Rattle.streams.specs.Joining as stream
use Rattle.stream_rooms.specs.Placing as stream_room
use Rattle.streams.specs.Inside.{Passed}
use Rattle.streams.proofs.Laws.{found_le, size-le, passed, by_rows, begin_own, begin_free, go_closed, go_passes, go_differs, go_placed}
use Rattle.lists.proofs.Tests.{by_test}
use Rattle.flows.specs.OneFlow.{PDU, pdu, held, delivered, refused, FlowOutcome, flow_outcome, is_open, flow_refused, flow_joined, flow_step}
use Rattle.flows.specs.Deliveries.{in_room, delivery}
use Rattle.flows.specs.ByFlow.{among, Tells}
use Rattle.contexts.proofs.Flows.{of_flow_lem}
use Rattle.flows.proofs.Contexts.{at, own, spare, of_open, closed_free, free_of_none, past, Own, found, lacks, own_cases, spare-there}
use Rattle.flows.proofs.Rooms.{room-length, stored-own}
use Rattle.flows.proofs.Seen.{seen, seen-some, seen_none, Sound, Mine, After, just_closed, stored_closed, stored-held}
use Rattle.flows.proofs.OneStep.{flow_malformed, flow_missized, flow_begins, flow_closed_lem, flow_passes, flow_differs, flow_joins}

-- what a step leaves is what the one-flow endpoint's outcome says
pub record Sim (flows : List Flow) (s : State) (memory : List ℕ) (g : Segment) (j : stream_room.Joined) (o : FlowOutcome) : Type 0 where
  pub leaves : After s.setup.room flows s.streams memory g.flow j.state.streams j.memory o.next
  pub tells : Tells s.setup.room j.memory g.flow j.says o.told
  pub drops : j.dropped ≡ o.dropped
  -- and the rest of the state stays
  pub same-room : j.state.setup.room ≡ s.setup.room
  pub same_messages : j.state.messages ≡ s.messages

module _ (flows : List Flow) (room : ℕ) (cs : List StreamContext) (memory : List ℕ) (ok : Sound room flows cs memory) (k : Flow) where
  -- a flow's own context serves it
  own_mine : Mine cs k (own cs k)
  own_mine = go (own_cases cs k)
    where
      go : Own cs k → Mine cs k (own cs k)
      go (found h t) = record {
        only = λ i e. ok.once i (own cs k) k e t;
        nobody = λ l e. sym (of_flow_lem l (at cs (own cs k)) e) ∙ of_flow_lem k (at cs (own cs k)) t;
      }
      go (lacks e no_one) = record {
        only = λ i e. absurd (no_one i e);
        nobody = λ l t. free_of_none l (at cs (own cs k)) (ap is_free_stream (past cs (own cs k) (omega arith)) ∙ closed_free) t;
      }

  -- and a free one serves a flow that has none
  spare_mine : ((i : ℕ) → is_of_flow k (at cs i) ≡ true → ⊥) → spare cs < length cs → Mine cs k (spare cs)
  spare_mine no_one lt = record {
    only = λ i e. absurd (no_one i e);
    nobody = λ l t. free_of_none l (at cs (spare cs)) (first_passes is_free_stream cs closed_stream lt) t;
  }

module _ (flows : List Flow) (s : State) (memory p : List ℕ) (g : Segment) (ok : Sound s.setup.room flows s.streams memory) (member : among g.flow flows ≡ true)
    (data_is : length (stream_room.data_of p g) ≡ data_length g) where
  -- refused, and the flow's context closed
  sim_closing : (before : Option PDU) (number : ℕ) → ltb (own s.streams g.flow) 16 ≡ is_open before → Sim flows s memory g (stream.refused_closing s memory g number) (flow_refused before number)
  unfolding stream.refused_closing flow_context
  sim_closing before number o = record {
    leaves = just_closed s.setup.room flows s.streams memory ok g.flow member (own s.streams g.flow) (own_mine flows s.setup.room s.streams memory ok g.flow);
    tells = refl;
    drops = o;
    same-room = refl;
    same_messages = refl;
  }

  -- stored in room n behind `base` bytes
  sim_placed : (n base stream_id : ℕ) (dropped : Bool) → Mine s.streams g.flow n → n < 16 → base + data_length g ≤ s.setup.room
      → Sim flows s memory g (stream_room.placed s memory p g n base stream_id dropped) (flow_joined g (pdu stream_id (in_room s.setup.room memory n base ++ stream_room.data_of p g)) dropped)
  unfolding stream_room.placed
  sim_placed n base stream_id dropped mine lt fits = go g.ends
    where
      fit : base + length (stream_room.data_of p g) ≤ s.setup.room
      fit = omega (arith, data_is)

      go : (e : Bool)
          → Sim flows s memory g
          (stream_room.joining (cond e (answers.delivered n g.flow stream_id (base + data_length g)) answers.held) dropped
          (with_stream s n (cond e closed_stream (record { live = 1; flow = g.flow; stream = stream_id; held = base + data_length g })))
          (written memory (n * s.setup.room + base) (stream_room.data_of p g)))
          (cond e (flow_outcome none (delivered (pdu stream_id (in_room s.setup.room memory n base ++ stream_room.data_of p g))) dropped)
          (flow_outcome (some (pdu stream_id (in_room s.setup.room memory n base ++ stream_room.data_of p g))) held dropped))
      go true = record {
        leaves = stored_closed s.setup.room flows s.streams memory ok g.flow member n mine lt base (stream_room.data_of p g) fit;
        tells =
            ap (λ (b : List ℕ). delivery g.flow (pdu stream_id b) ∷ [])
            (ap (λ (m : ℕ). in_room s.setup.room (written memory (n * s.setup.room + base) (stream_room.data_of p g)) n (base + m)) (sym data_is)
            ∙ stored-own s.setup.room memory ok.rooms n lt base (stream_room.data_of p g) fit);
        drops = refl;
        same-room = refl;
        same_messages = refl;
      }
      go false = record {
        leaves =
            subst (λ (m : ℕ). After s.setup.room flows s.streams memory g.flow (set s.streams n (record { live = 1; flow = g.flow; stream = stream_id; held = base + m }))
            (written memory (n * s.setup.room + base) (stream_room.data_of p g)) (some (pdu stream_id (in_room s.setup.room memory n base ++ stream_room.data_of p g))))
            data_is (stored-held s.setup.room flows s.streams memory ok g.flow member n mine lt base (stream_room.data_of p g) fit stream_id);
        tells = refl;
        drops = refl;
        same-room = refl;
        same_messages = refl;
      }

  -- row 8: all stays
  sim_staying : seen s.setup.room s.streams memory g.flow ≡ none → Sim flows s memory g (stream_room.joining (answers.refused 8) false s memory) (flow_outcome none (refused 8) false)
  sim_staying v = record { leaves = record { sound = ok; own_is = v; others = λ l ne. refl }; tells = refl; drops = refl; same-room = refl; same_messages = refl }

  -- a closing refusal by the code's tests
  closing_6 : malformed g ≡ true → stream.stepped s memory p g ≡ stream.refused_closing s memory g 6
  closing_6 d = by_rows s memory p g ∙ rw d

  closing_7 : malformed g ≡ false → wrong_size g.ends (data_length g) s.setup.mtu ≡ true → stream.stepped s memory p g ≡ stream.refused_closing s memory g 7
  unfolding missized
  closing_7 d e = by_rows s memory p g ∙ rw (d, e)

  abbrev Stepped : Option PDU → Type 0
  Stepped before = Sim flows s memory g (stream.stepped s memory p g) (flow_step s.setup before g (stream_room.data_of p g))

  module _ (few : length flows ≤ 16) (fine : named_by_19 s ≡ false) where
    sim_6 : (before : Option PDU) → ltb (own s.streams g.flow) 16 ≡ is_open before → malformed g ≡ true → Stepped before
    sim_6 before o d =
        subst₂ (λ (j : stream_room.Joined) (x : FlowOutcome). Sim flows s memory g j x) (sym (closing_6 d)) (sym (flow_malformed s.setup g (stream_room.data_of p g) before d)) (sim_closing before 6 o)

    module _ (d : malformed g ≡ false) where
      sim_7 : (before : Option PDU) → ltb (own s.streams g.flow) 16 ≡ is_open before → wrong_size g.ends (data_length g) s.setup.mtu ≡ true → Stepped before
      sim_7 before o e =
          subst₂ (λ (j : stream_room.Joined) (x : FlowOutcome). Sim flows s memory g j x) (sym (closing_7 d e)) (sym (flow_missized s.setup g (stream_room.data_of p g) d before e))
          (sim_closing before 7 o)

      module _ (e : wrong_size g.ends (data_length g) s.setup.mtu ≡ false) where
        -- a start or single fits any room
        start_small : 0 + data_length g ≤ s.setup.room
        start_small = omega (arith, size-le g.ends (data_length g) s.setup.mtu e, (good s fine).holds)

        -- the code's facts on the packet, where its flow is open and where it is not
        now_open : found_for s g < 16 → Passed s g (Some (found_for s g)) (data_length g)
        now_open lt = passed s g {count = data_length g} {mtu = s.setup.mtu} refl refl {found = Some (found_for s g)} d (refl, lt) e

        now_shut : 16 ≤ found_for s g → Passed s g None (data_length g)
        now_shut past_all = passed s g {count = data_length g} {mtu = s.setup.mtu} refl refl {found = None} d (omega (arith, found_le s g ok.size), tt) e

        sim_begins : (before : Option PDU) → Own s.streams g.flow → ltb (own s.streams g.flow) 16 ≡ is_open before → g.begins ≡ true → Stepped before
        unfolding flow_context free_stream
        sim_begins before (found h u) o t =
            let i : ℕ = own s.streams g.flow in
            let lt : i < 16 = omega (arith, ok.size) in
            let opened : true ≡ is_open before = sym (lt-ltb i 16 lt) ∙ o in
            subst₂ (λ (j : stream_room.Joined) (x : FlowOutcome). Sim flows s memory g j x)
            (begin_own s memory p g t (now_open lt) fine refl refl)
            (ap (flow_joined g (pdu g.field (stream_room.data_of p g))) opened ∙ sym (flow_begins s.setup g (stream_room.data_of p g) d e before t))
            (sim_placed i 0 g.field true (own_mine flows s.setup.room s.streams memory ok g.flow) lt start_small)
        sim_begins before (lacks q no_one) o t =
            let i : ℕ = spare s.streams in
            let within : i < length s.streams = spare-there flows s.streams (omega (arith, ok.size)) ok.once ok.inside g.flow member no_one in
            let lt : i < 16 = omega (arith, ok.size) in
            let past_all : 16 ≤ own s.streams g.flow = omega (arith, ok.size) in
            let shut : false ≡ is_open before = sym (le-ltb (own s.streams g.flow) 16 past_all) ∙ o in
            subst₂ (λ (j : stream_room.Joined) (x : FlowOutcome). Sim flows s memory g j x)
            (begin_free s memory p g t (now_shut past_all) fine refl {n = i} (refl, lt) refl)
            (ap (flow_joined g (pdu g.field (stream_room.data_of p g))) shut ∙ sym (flow_begins s.setup g (stream_room.data_of p g) d e before t))
            (sim_placed i 0 g.field false (spare_mine flows s.setup.room s.streams memory ok g.flow no_one within) lt start_small)

        module _ (t : g.begins ≡ false) where
          -- the flow's context and what it holds
          abbrev i : ℕ
          i = own s.streams g.flow

          abbrev c : StreamContext
          c = at s.streams i

          abbrev held_so_far : PDU
          held_so_far = pdu c.stream (in_room s.setup.room memory i c.held)

          sim_closed : 16 ≤ i → Stepped none
          unfolding flow_context
          sim_closed o =
              subst₂ (λ (j : stream_room.Joined) (x : FlowOutcome). Sim flows s memory g j x)
              (go_closed s memory p g t (now_shut o) refl)
              (sym (flow_closed_lem s.setup g (stream_room.data_of p g) d e t))
              (sim_staying (seen_none s.setup.room s.streams memory g.flow o))

          module _ (lt : i < 16) (small : c.held ≤ s.setup.room) where
            holds : length held_so_far.bytes ≡ c.held
            holds = room-length s.setup.room i c.held memory ok.rooms lt small

            sim_9 : ltb s.setup.room (c.held + data_length g) ≡ true → Stepped (some held_so_far)
            unfolding flow_context stream.refused_closing
            sim_9 h =
                subst₂ (λ (j : stream_room.Joined) (x : FlowOutcome). Sim flows s memory g j x)
                (go_passes s memory p g t (now_open lt) {held = c.held} {room = s.setup.room} refl refl (ltb-true s.setup.room (c.held + data_length g) h)
                (record { answer = refl; drop = refl; state = refl }))
                (sym (flow_passes s.setup g (stream_room.data_of p g) d e t held_so_far c.held holds h))
                (sim_closing (some held_so_far) 9 (lt-ltb i 16 lt))

            module _ (h : ltb s.setup.room (c.held + data_length g) ≡ false) where
              fits : c.held + data_length g ≤ s.setup.room
              fits = ltb-false s.setup.room (c.held + data_length g) h

              sim_11 : wrong_length g (c.held + data_length g) ≡ true → Stepped (some held_so_far)
              unfolding flow_context stream.refused_closing
              sim_11 w =
                  subst₂ (λ (j : stream_room.Joined) (x : FlowOutcome). Sim flows s memory g j x)
                  (go_differs s memory p g t (now_open lt) {held = c.held} {room = s.setup.room} refl refl fits w (record { answer = refl; drop = refl; state = refl }))
                  (sym (flow_differs s.setup g (stream_room.data_of p g) d e t held_so_far c.held holds h w))
                  (sim_closing (some held_so_far) 11 (lt-ltb i 16 lt))

              sim_joins : wrong_length g (c.held + data_length g) ≡ false → Stepped (some held_so_far)
              unfolding flow_context
              sim_joins w =
                  subst₂ (λ (j : stream_room.Joined) (x : FlowOutcome). Sim flows s memory g j x)
                  (go_placed s memory p g t (now_open lt) {held = c.held} {room = s.setup.room} refl refl fits w refl)
                  (sym (flow_joins s.setup g (stream_room.data_of p g) d e t held_so_far c.held holds h w))
                  (sim_placed i c.held c.stream false (own_mine flows s.setup.room s.streams memory ok g.flow) lt fits)

            sim_continues : Stepped (some held_so_far)
            sim_continues =
                by_test (ltb s.setup.room (c.held + data_length g)) sim_9
                (λ h. by_test (wrong_length g (c.held + data_length g)) (sim_11 h) (sim_joins h))

    -- by all the tests, for what the flow has on the board
    module _ (before : Option PDU) (o : ltb (own s.streams g.flow) 16 ≡ is_open before) (cases : Own s.streams g.flow)
        (more : (d : malformed g ≡ false) → (e : wrong_size g.ends (data_length g) s.setup.mtu ≡ false) → g.begins ≡ false → Stepped before) where
      sim_by_tests : Stepped before
      sim_by_tests =
          by_test (malformed g) (sim_6 before o)
          (λ d. by_test (wrong_size g.ends (data_length g) s.setup.mtu) (sim_7 d before o)
          (λ e. by_test g.begins (sim_begins d e before cases o) (more d e)))

    pub sim_stepped : Stepped (seen s.setup.room s.streams memory g.flow)
    sim_stepped = go (own_cases s.streams g.flow)
      where
        go : Own s.streams g.flow → Stepped (seen s.setup.room s.streams memory g.flow)
        go (found h u) =
            let n : ℕ = own s.streams g.flow in
            let a : StreamContext = at s.streams n in
            let lt : n < 16 = omega (arith, ok.size) in
            let before : Option PDU = some (pdu a.stream (in_room s.setup.room memory n a.held)) in
            subst Stepped (sym (seen-some s.setup.room s.streams memory g.flow n a refl refl lt))
            (sim_by_tests before (lt-ltb n 16 lt) (found h u) (λ d e t. sim_continues d e t lt (ok.counts n (of_open g.flow a u))))
        go (lacks q no_one) =
            let past_all : 16 ≤ own s.streams g.flow = omega (arith, ok.size) in
            subst Stepped (sym (seen_none s.setup.room s.streams memory g.flow past_all))
            (sim_by_tests none (le-ltb (own s.streams g.flow) 16 past_all) (lacks q no_one) (λ d e t. sim_closed d e t past_all))

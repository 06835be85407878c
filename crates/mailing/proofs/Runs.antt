-- The segments of a message among other packets, call by call: it waits for its first segment, is open until the last one comes, and is over.
use Prim.Native.Nat.{ℕ, zero, suc, ◌+◌, ◌*◌, ◌%◌, ◌≤◌, ◌<◌}
use mathlib.Core.Path.{◌≡◌, refl, ap, ap₂, sym, ◌∙◌, subst, subst₂}
use mathlib.Core.List.{List, [], ◌∷◌, ◌++◌, map}
use mathlib.Core.Bool.{Bool, true, false, cond}
use native.Mathlib.Omega.{arith}
use lib.ListN.{length, replicate}
use lib.Dec.{eqb}
use borrow.Author.Tests.{eq-eqb, ne_eqb}
use Rattle.lists.specs.Each.{Each}
use Rattle.answers.specs.Answers.{Said, held}
use Rattle.wire.specs.declared.Setup.{Setup}
use Rattle.wire.specs.Packet.{ids_of}
use Rattle.contexts.specs.State.{State, ids_in, message_in, message_context, free_message}
use Rattle.marks.specs.Marks.{marked, with_mark, all_marked}
use Rattle.contexts.proofs.Words.{eight}
use Rattle.message_rooms.specs.Placing.{MessageJoined, message_data}
use Rattle.messages.specs.Joining.{message_stepped}
use Rattle.reading.specs.Desk.{Desk, state_on, with_response}
use Rattle.flows.specs.Deliveries.{read, after, in_room}
use Rattle.mailing.specs.Mail.{Mail, Posted, segment_size, msglen_of, data_at, is_alone, mbox_of, mail_packet, mail_segment, Postable, ReadsAsMail, mail_answer}
use Rattle.mailing.specs.Run.{MailTurn, segment, other, arrivals, is_name, FairMailTurn, MailCall, of_segments, context_at_first, said_at, DoneAt, mail_in, of_name}
use Rattle.mailing.specs.ReadBack.{setup_of, context_of, MailRun, MailReadsBack, defined_calls, MessageReadBack}
use Rattle.mailing.specs.OfCalls.{MessageReadBackOfCalls}
use Rattle.mailing.proofs.Sizes.{Sized, sized}
use Rattle.mailing.proofs.Packets.{mail_read}
use Rattle.mailing.proofs.Awaited.{Awaits, awaits_all, next_awaited, then_awaited, some_awaited, none_awaited, all_come, as_many}
use Rattle.mailing.proofs.Rooms.{inside, fits-room}
use Rattle.mailing.proofs.Contexts.{is_mine, is_told_of, kept_mine}
use Rattle.mailing.proofs.Segments.{Open, Holds, Delivers, only, first, next, final}
use Rattle.mailing.proofs.Others.{Stays}
use Rattle.mailing.proofs.Desks.{Ready, with_buffer, Read11, read_11, read_other}
use Rattle.mailing.proofs.Fetched.{Has}
use Rattle.mailing.proofs.Calls.{Calls, none, one, call_with, of_definitions, of_promises}

-- ---- What stays of an open message

stays_open : (x : Posted) (z : Sized x) {s s' : State} {memory memory' : List ℕ} {n marks last : ℕ}
    → Stays x s memory s' memory' → Open x s memory n marks last → Open x s' memory' n marks last
unfolding message_context
stays_open x z {s} {s'} {memory} {memory'} {n} {marks} {last} t o =
    let mine : is_mine x (message_in s n) ≡ true = ap (is_mine x) o.context ∙ kept_mine x 0 marks last in
    record {
      below = o.below;
      found = t.found ∙ o.found;
      context = t.context n mine ∙ o.context;
      last-is = o.last-is;
      filled = λ j h e.
          t.room n (n * 4096 + j * segment_size x) (length (data_at x j)) mine (omega arith) (omega (arith, inside x z j h, fits-room x z))
          ∙ o.filled j h e;
    }

-- ---- Lists of messages

of_append : (x : Posted) (ys zs : List Mail) → of_name x (ys ++ zs) ≡ of_name x ys ++ of_name x zs
of_append x [] zs = refl
of_append x (y ∷ ys) zs = go (is_name x y.source y.letter (y.mailbox % 4)) (of_append x ys zs)
  where
    go : (b : Bool) → of_name x (ys ++ zs) ≡ of_name x ys ++ of_name x zs
        → cond b (y ∷ of_name x (ys ++ zs)) (of_name x (ys ++ zs)) ≡ cond b (y ∷ of_name x ys) (of_name x ys) ++ of_name x zs
    go true ih = ap (λ (l : List Mail). y ∷ l) ih
    go false ih = ih

of_itself : (x : Posted) → of_name x (x.mail ∷ []) ≡ x.mail ∷ []
of_itself x = rw (eq-eqb x.mail.source x.mail.source refl, eq-eqb x.mail.letter x.mail.letter refl, eq-eqb (mbox_of x) (mbox_of x) refl)

-- ---- Turns

module _ (setup : Setup) (x : Posted) (post : Postable setup x) where
  z : Sized x
  z = sized setup x post

  -- c segments are held and one more delivers the message from context n
  record Result (ts : List MailTurn) (cs : List MailCall) (n c : ℕ) : Type 0 where
    answers : map said_at (of_segments ts cs) ≡ replicate c held ++ (mail_answer x n ∷ [])
    responses : Each DoneAt (of_segments ts cs)
    delivers : of_name x (mail_in cs) ≡ x.mail ∷ []

  -- no segment is left
  record Over (ts : List MailTurn) (cs : List MailCall) : Type 0 where
    none_left : of_segments ts cs ≡ []
    silent : of_name x (mail_in cs) ≡ []

  -- a call in front: what it delivers of the message, and what the others do
  in_front : (call : MailCall) (cs : List MailCall) {u v : List Mail} → of_name x call.mail ≡ u → of_name x (mail_in cs) ≡ v → of_name x (mail_in (call ∷ cs)) ≡ u ++ v
  in_front call cs e f = of_append x call.mail (mail_in cs) ∙ ap₂ (λ (u v : List Mail). u ++ v) e f

  -- one whose answer is not of the message
  module _ (call : MailCall) {ts : List MailTurn} {cs : List MailCall} (nothing : of_name x call.mail ≡ []) where
    other_over : {p : List ℕ} → Over ts cs → Over (other p ∷ ts) (call ∷ cs)
    other_over h = record { none_left = h.none_left; silent = in_front call cs nothing h.silent }

    other_result : {p : List ℕ} {n c : ℕ} → Result ts cs n c → Result (other p ∷ ts) (call ∷ cs) n c
    other_result h = record { answers = h.answers; responses = h.responses; delivers = in_front call cs nothing h.delivers }

    held_result : {k n c : ℕ} → call.says ≡ held → DoneAt call → Result ts cs n c → Result (segment k ∷ ts) (call ∷ cs) n (suc c)
    held_result says done h = record {
      answers = ap₂ (λ (a : Said) (rest : List Said). a ∷ rest) says h.answers;
      responses = (done, h.responses);
      delivers = in_front call cs nothing h.delivers;
    }

  -- one that delivers it
  final_result : {call : MailCall} {k n : ℕ} {ts : List MailTurn} {cs : List MailCall} → call.says ≡ mail_answer x n → DoneAt call → call.mail ≡ x.mail ∷ [] → Over ts cs
      → Result (segment k ∷ ts) (call ∷ cs) n 0
  final_result {call} {k} {n} {ts} {cs} says done mail h = record {
    answers = ap₂ (λ (a : Said) (rest : List Said). a ∷ rest) says (ap (map said_at) h.none_left);
    responses = (done, subst (Each DoneAt) (sym h.none_left) tt);
    delivers = in_front call cs (ap (of_name x) mail ∙ of_itself x) h.silent;
  }

  -- ---- the whole run, by what is known of the message

  over : (ts : List MailTurn) {d : Desk} {cs : List MailCall} → Calls setup x d ts cs → Ready setup d → arrivals ts ≡ [] → Each (FairMailTurn setup x) ts → Over ts cs
  over [] none r e fair = record { none_left = refl; silent = refl }
  over (segment k ∷ ts) calls r e fair = absurd (let clash : ◌≡◌ {A = ℕ} 0 1 = cc in omega arith)
  over (other p ∷ ts) {d} (one given mail h has rest) r e fair =
      let q = read_other setup (with_response d given) p (with_buffer r given h) fair.0.0 x fair.0.1 in
      other_over _ (has.silent q.silent) (over ts rest q.ready e fair.1)

  -- as many numbers as a list has
  nothing_left : (ks : List ℕ) → length ks ≡ 0 → ks ≡ []
  nothing_left [] e = refl
  nothing_left (k ∷ ks) e = absurd (omega arith)

  -- where one is awaited, not all are marked
  more_awaited : (ks : List ℕ) (marks : ℕ) → Awaits (msglen_of x) marks ks → 0 < length ks → all_marked marks (msglen_of x + 1) ≡ false
  more_awaited [] marks w h = absurd (omega arith)
  more_awaited (k ∷ ks) marks w h = some_awaited (msglen_of x) marks k ks w

  -- segment k is read by the state and the memory
  module _ (d : Desk) (k : ℕ) (r : Ready setup d) (below : k ≤ msglen_of x) where
    abbrev packet : List ℕ
    packet = mail_packet setup x k

    says_it : ReadsAsMail setup x k
    says_it = mail_read setup x k post below

    -- at the width of the desk
    data_here : message_data (ids_in (state_on d)) packet ≡ data_at x k
    data_here = ap (λ (t : Setup). message_data (ids_of t) packet) r.own-setup ∙ says_it.data_are

    abbrev step : MessageJoined
    step = message_stepped (state_on d) d.message_memory d.response packet (mail_segment x k)

    -- the kept length of the last segment, with this one
    abbrev last_after : ℕ → ℕ
    last_after last = cond (eqb k (msglen_of x)) (length (data_at x k)) last

    by_step : Read11 setup d packet step
    by_step = read_11 setup d packet r says_it.are_bytes (mail_segment x k) says_it.read

    -- what it leaves, by what is known of the message
    only_here : is_alone x ≡ true → free_message (state_on d) < 8 → Delivers (ids_in (state_on d)) x d.response packet (free_message (state_on d)) step
    only_here =
        only x z (state_on d) (eight d.words) d.message_memory r.desk.lends.boxes d.response packet k below
        says_it.mailbox_is data_here says_it.well-formed

    first_here : is_alone x ≡ false → context_of x d ≡ 8 → free_message (state_on d) < 8 → all_marked (with_mark 0 k) (msglen_of x + 1) ≡ false
        → Holds (ids_in (state_on d)) x d.response packet (free_message (state_on d)) (with_mark 0 k) (last_after 0) step
    first_here =
        first x z (state_on d) (eight d.words) d.message_memory r.desk.lends.boxes d.response packet k below
        says_it.mailbox_is data_here says_it.well-formed

    module _ (several : is_alone x ≡ false) (n marks last : ℕ) (o : Open x (state_on d) d.message_memory n marks last) (unset : marked marks k ≡ false) where
      next_here : all_marked (with_mark marks k) (msglen_of x + 1) ≡ false → Holds (ids_in (state_on d)) x d.response packet n (with_mark marks k) (last_after last) step
      next_here =
          next x z (state_on d) (eight d.words) d.message_memory r.desk.lends.boxes d.response packet k below
          says_it.mailbox_is data_here says_it.well-formed several n marks last o unset

      final_here : Awaits (msglen_of x) (with_mark marks k) [] → Delivers (ids_in (state_on d)) x d.response packet n step
      final_here rest =
          final x z (state_on d) (eight d.words) d.message_memory r.desk.lends.boxes d.response packet k below
          says_it.mailbox_is data_here says_it.well-formed several n marks last o unset
          (none_awaited (msglen_of x) (with_mark marks k) rest) (all_come (msglen_of x) (with_mark marks k) rest)

    -- it is held
    then_open : {n marks last : ℕ} → Holds (ids_in (state_on d)) x d.response packet n marks last step
        → Open x (state_on (after d packet)) (after d packet).message_memory n marks last
    then_open {n} {marks} {last} h = subst₂ (λ (s : State) (memory : List ℕ). Open x s memory n marks last) (sym by_step.state) (sym by_step.memory) h.stands

    module _ {mail : List Mail} {ts : List MailTurn} {cs : List MailCall} (has : Has x (after d packet) (read d packet).says mail) where
      held_then : {n marks last c : ℕ} → Holds (ids_in (state_on d)) x d.response packet n marks last step → Result ts cs n c
          → Result (segment k ∷ ts) (call_with d packet mail ∷ cs) n (suc c)
      held_then h rest =
          let says : (read d packet).says ≡ held = by_step.says ∙ h.says in
          held_result _ (has.silent (ap (is_told_of x) says)) says (by_step.response ∙ h.done) rest

      -- it delivers the message
      final_then : {n : ℕ} → n < 8 → Delivers (ids_in (state_on d)) x d.response packet n step → Over ts cs → Result (segment k ∷ ts) (call_with d packet mail ∷ cs) n 0
      final_then {n} lt t rest =
          let says : (read d packet).says ≡ mail_answer x n = by_step.says ∙ t.says in
          let room = ap (λ (memory : List ℕ). in_room 4096 memory n (length x.mail.bytes)) by_step.memory ∙ t.room in
          final_result says (by_step.response ∙ t.done) (has.message_itself n lt by_step.ready.desk room says) rest

  -- none is open for it, still
  still-none : {s s' : State} {memory memory' : List ℕ} → Stays x s memory s' memory'
      → message_context s x.mail.source x.mail.letter (mbox_of x) ≡ 8 → message_context s' x.mail.source x.mail.letter (mbox_of x) ≡ 8
  unfolding message_context
  still-none t e = t.found ∙ e

  module _ (several : is_alone x ≡ false) where
    -- the message is open, and c + 1 segments are to come
    joining : (ts : List MailTurn) {d : Desk} {cs : List MailCall} (n marks last c : ℕ) → Calls setup x d ts cs → Ready setup d
        → Open x (state_on d) d.message_memory n marks last
        → Awaits (msglen_of x) marks (arrivals ts) → length (arrivals ts) ≡ suc c → Each (FairMailTurn setup x) ts → Result ts cs n c
    joining [] n marks last c none r o w count fair = absurd (omega arith)
    joining (other p ∷ ts) {d} n marks last c (one given mail h has rest) r o w count fair =
        let q = read_other setup (with_response d given) p (with_buffer r given h) fair.0.0 x fair.0.1 in
        other_result _ (has.silent q.silent) (joining ts n marks last c rest q.ready (stays_open x z q.stays o) w count fair.1)
    joining (segment k ∷ ts) {d} n marks last zero (one given mail h has rest) r o w count fair =
        let e : Desk = with_response d given in
        let ready = with_buffer r given h in
        let a = next_awaited (msglen_of x) marks k (arrivals ts) w in
        let no_more : arrivals ts ≡ [] = nothing_left (arrivals ts) (omega arith) in
        let all = subst (Awaits (msglen_of x) (with_mark marks k)) no_more (then_awaited (msglen_of x) marks k (arrivals ts) w) in
        final_then e k ready a.0 has o.below (final_here e k ready a.0 several n marks last o a.1 all)
        (over ts rest (by_step e k ready a.0).ready no_more fair.1)
    joining (segment k ∷ ts) {d} n marks last (suc c) (one given mail h has rest) r o w count fair =
        let e : Desk = with_response d given in
        let ready = with_buffer r given h in
        let a = next_awaited (msglen_of x) marks k (arrivals ts) w in
        let more = then_awaited (msglen_of x) marks k (arrivals ts) w in
        let holds = next_here e k ready a.0 several n marks last o a.1 (more_awaited (arrivals ts) (with_mark marks k) more (omega arith)) in
        held_then e k ready a.0 has holds
        (joining ts n _ _ c rest (by_step e k ready a.0).ready (then_open e k ready a.0 holds) more (omega arith) fair.1)

    -- none is open for it, and c + 2 segments are to come
    waiting : (ts : List MailTurn) {d : Desk} {cs : List MailCall} (c : ℕ) → Calls setup x d ts cs → Ready setup d
        → context_of x d ≡ 8 → context_at_first (of_segments ts cs) < 8
        → Awaits (msglen_of x) 0 (arrivals ts) → length (arrivals ts) ≡ suc (suc c) → Each (FairMailTurn setup x) ts → Result ts cs (context_at_first (of_segments ts cs)) (suc c)
    waiting [] c none r shut free w count fair = absurd (omega arith)
    waiting (other p ∷ ts) {d} c (one given mail h has rest) r shut free w count fair =
        let q = read_other setup (with_response d given) p (with_buffer r given h) fair.0.0 x fair.0.1 in
        other_result _ (has.silent q.silent) (waiting ts c rest q.ready (still-none q.stays shut) free w count fair.1)
    waiting (segment k ∷ ts) {d} c (one given mail h has rest) r shut free w count fair =
        let e : Desk = with_response d given in
        let ready = with_buffer r given h in
        let a = next_awaited (msglen_of x) 0 k (arrivals ts) w in
        let more = then_awaited (msglen_of x) 0 k (arrivals ts) w in
        let holds = first_here e k ready a.0 several shut free (more_awaited (arrivals ts) (with_mark 0 k) more (omega arith)) in
        held_then e k ready a.0 has holds
        (joining ts (free_message (state_on d)) _ _ c rest (by_step e k ready a.0).ready (then_open e k ready a.0 holds) more (omega arith) fair.1)

  -- it has one segment, which is to come
  alone : (ts : List MailTurn) {d : Desk} {cs : List MailCall} → is_alone x ≡ true → Calls setup x d ts cs → Ready setup d → context_at_first (of_segments ts cs) < 8
      → Awaits (msglen_of x) 0 (arrivals ts) → length (arrivals ts) ≡ 1 → Each (FairMailTurn setup x) ts → Result ts cs (context_at_first (of_segments ts cs)) 0
  alone [] t none r free w count fair = absurd (omega arith)
  alone (other p ∷ ts) {d} t (one given mail h has rest) r free w count fair =
      let q = read_other setup (with_response d given) p (with_buffer r given h) fair.0.0 x fair.0.1 in
      other_result _ (has.silent q.silent) (alone ts t rest q.ready free w count fair.1)
  alone (segment k ∷ ts) {d} t (one given mail h has rest) r free w count fair =
      let e : Desk = with_response d given in
      let ready = with_buffer r given h in
      let a = next_awaited (msglen_of x) 0 k (arrivals ts) w in
      final_then e k ready a.0 has free (only_here e k ready a.0 t free)
      (over ts rest (by_step e k ready a.0).ready (nothing_left (arrivals ts) (omega arith)) fair.1)

-- ---- The statements

module _ (d : Desk) (x : Posted) (turns : List MailTurn) (calls : List MailCall) (run : MailRun d x turns calls) (made : Calls (setup_of d) x d turns calls) where
  ready : Ready (setup_of d) d
  ready = record { desk = run.start; own-setup = refl }

  awaits : Awaits (msglen_of x) 0 (arrivals turns)
  awaits = awaits_all (msglen_of x) (arrivals turns) run.each-once

  count : length (arrivals turns) ≡ suc (msglen_of x)
  count = as_many (msglen_of x) (arrivals turns) run.each-once

  abbrev first_context : ℕ
  first_context = context_at_first (of_segments turns calls)

  left_free : first_context < 8
  left_free = omega (arith, run.one_free)

  none-there : 0 < msglen_of x → context_of x d ≡ 8
  none-there h = omega (arith, run.none_open h)

  by_segments : (n : ℕ) → msglen_of x ≡ n → Result (setup_of d) x run.postable turns calls first_context n
  by_segments zero e = alone (setup_of d) x run.postable turns (eq-eqb (msglen_of x) 0 e) made ready left_free awaits (omega (arith, count)) run.others
  by_segments (suc c) e =
      let several = ne_eqb (msglen_of x) 0 (λ none. omega arith) in
      waiting (setup_of d) x run.postable several turns c made ready (none-there (omega arith)) left_free awaits (omega (arith, count)) run.others

  reads_back : MailReadsBack x turns calls
  reads_back =
      let r = by_segments (msglen_of x) refl in
      record { answers = r.answers; responses = r.responses; delivers = r.delivers }

pub message_read_back : MessageReadBack
message_read_back d x turns run = reads_back d x turns (defined_calls d x turns) run (of_definitions (setup_of d) x turns d run.start.lends.reply)

pub message_read_back_of_calls : MessageReadBackOfCalls
message_read_back_of_calls d x turns calls kept run = reads_back d x turns calls run (of_promises (setup_of d) x (sized (setup_of d) x run.postable) turns kept)

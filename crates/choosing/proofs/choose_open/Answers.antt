-- `choosing::choose_open` meets its contract: rows 23 and 24, else the context of the message found.
use Rattle.std.proofs.Common.{◌≡◌, ℕ, ◌+◌, ◌<◌, ◌^◌, refl, ap, sym, ◌∙◌, subst, arith}
use Rattle.contexts.specs.State.{message_contexts, message_context, message_in}
use Rattle.contexts.specs.Words.{state_of}
use Rattle.refusal19.proofs.Good.{Message}
use Rattle.message_rooms.specs.Placing.{message_placed}
use Rattle.message_rooms.specs.Inside.{MessageFits}
use Rattle.message_rooms.proofs.Laws.{marks_le}
use Rattle.messages.proofs.Laws.{open_msglen, open_ssize, open_marked, open_passes, open_accepted, found_message, last_le}
use Rattle.choosing.proofs.choose_open.Goals as goal
use Rattle.choosing.proofs.choose_open.Goals.{After-message_at-c}

-- ---- the message found

abbrev number : After-message_at-c → ℕ
number c = message_context (state_of c.args.state.now) c.args.m.source c.args.m.letter c.args.m.mbox

is_open : (c : After-message_at-c) → number c < message_contexts
is_open c = rw (← c.requires.found_lt_message_contexts.1) c.requires.found_lt_message_contexts.0

is_own : (c : After-message_at-c) → c.message_at-c.result ≡ message_in (state_of c.args.state.now) (number c)
is_own c = rw (← c.requires.found_lt_message_contexts.1) c.message_at-c.ensures

is_good : (c : After-message_at-c) → Message c.message_at-c.result
is_good c = found_message _ c.args.m c.args.state.now _ refl c.requires.of_several.good (is_open c) (is_own c)

-- ---- the ways out

-- 23: another msglen
pub returns-then-c-m : goal.returns-then-c-m
returns-then-c-m c =
    let own = (goal.at.returns-then-c-m c).After-message_at-c in
    record { row = sym (open_msglen _ _ c.requires.of_several.several _ (is_open own) (is_own own) c.if-c-m.true); goes = tt }

-- 23: another ssize
pub returns-then-c-m-2 : goal.returns-then-c-m-2
returns-then-c-m-2 c =
    let own = (goal.at.returns-then-c-m-2 c).After-message_at-c in
    record { row = sym (open_ssize _ _ c.requires.of_several.several _ (is_open own) (is_own own) c.if-c-m-2.true); goes = tt }

pub overflow_cast-c : goal.overflow_cast-c
overflow_cast-c c =
    let found = is_good (goal.at.overflow_cast-c c).After-message_at-c in
    omega (arith, marks_le _ _ (omega (arith, found.most)) found.inside)

-- 24: already marked
pub returns-then-marked : goal.returns-then-marked
returns-then-marked c =
    let own = (goal.at.returns-then-marked c).After-message_at-c in
    let twice = sym c.marked.ensures ∙ c.if-marked.true in
    record {
      row = sym (open_marked _ _ c.requires.of_several.several _ (is_open own) (is_own own) c.if-c-m.false c.if-c-m-2.false twice);
      goes = tt;
    }

-- one more segment
pub returns : goal.returns
returns c =
    let own = (goal.at.returns c).After-message_at-c in
    let found = c.message_at-c.result in
    let st = state_of c.args.state.now in
    let m = c.args.m in
    let several = c.requires.of_several.several in
    let unset = sym c.marked.ensures ∙ c.if-marked.false in
    let fits : MessageFits m c.args.found found.marks found.last = record {
      context = c.requires.found_lt_message_contexts.0;
      several = several;
      inside = subst (λ (l : ℕ). found.marks < 2 ^ (l + 1)) c.if-c-m.false (is_good own).inside;
      unmarked = unset;
      short = last_le _ (is_good own).kept;
    } in
    record {
      row = sym (open_passes st m several found (is_open own) (is_own own) c.if-c-m.false c.if-c-m-2.false unset);
      goes = record {
        accepts = λ memory response p. ap (λ (n : ℕ). message_placed st memory response p m n found.marks found.last) c.requires.found_lt_message_contexts.1
            ∙ open_accepted st m several found (is_open own) (is_own own) memory response p;
        fits = fits;
      };
    }

-- `choosing::choose_new` meets its contract: a free context is taken with no marks, or none is free.
use Rattle.std.proofs.Common.{ℕ, ◌+◌, ap, sym, ◌∙◌, arith}
use Rattle.std.proofs.Math.Pow.{pow_pos}
use Rattle.marks.proofs.Marks.{nothing-marked}
use Rattle.contexts.specs.Words.{state_of}
use Rattle.message_rooms.specs.Placing.{message_placed}
use Rattle.messages.proofs.Laws.{new_none, new_passes, new_accepted}
use Rattle.choosing.proofs.choose_new.Goals as goal

-- 25: none is free
pub returns-in_default : goal.returns-in_default
returns-in_default c = record {
  row = sym (new_none _ _ c.requires.of_several.several c.requires.message_contexts_bound (rw (← c.in_default.ensures.0) (omega arith)));
  goes = tt;
}

-- a free context
pub returns : goal.returns
returns c =
    let free = c.in-Some.ensures in
    let st = state_of c.args.state.now in
    let m = c.args.m in
    let several = c.requires.of_several.several in
    let new = c.requires.message_contexts_bound in
    record {
      row = sym (new_passes st m several new (rw (← free.0) free.1));
      goes = record {
        accepts = λ memory response p. ap (λ (n : ℕ). message_placed st memory response p m n 0 0) free.0 ∙ new_accepted st m several new memory response p;
        fits = record {
          context = free.1;
          several = several;
          inside = pow_pos (m.msglen + 1);
          unmarked = nothing-marked m.msgseg;
          short = omega arith;
        };
      };
    }

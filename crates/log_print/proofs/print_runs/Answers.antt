-- `log_print::print_runs` meets its contract, and ends: a run that is not over has come on.
use Rattle.std.proofs.Common.{refl}
use mathlib.Core.Path.{◌∙◌}
use native.Mathlib.Omega.{arith}
use Rattle.reading.specs.Desk.{desk}
use Rattle.log_run.proofs.Runs.{adds_last, adds-more, few-behind}
use Rattle.log_print.proofs.Begins.{begins}
use Rattle.log_print.proofs.print_runs.Goals as goal

-- nothing is put, and the whole output is still to come
pub loop-state-init : goal.loop-state-init
loop-state-init g c =
    record {
      words = c.setup.auto.state;
      streams = refl;
      messages = refl;
      reply = refl;
      buffer = refl;
      few = omega arith;
      inside = omega arith;
      fits = omega arith;
      whole = begins _ _ c.setup.result c.requires c.setup.ensures;
    }

-- each run puts at most a buffer
pub overflow_add-total : goal.overflow_add-total
overflow_add-total g c =
    let i = c.loop-state.invariant in
    omega (arith, i.fits, i.buffer, i.inside, c.run-ran.ensures.run_onward.0, c.requires)

-- the last run
pub returns-then-ran : goal.returns-then-ran
returns-then-ran g c =
    let i = c.loop-state.invariant in
    omega (arith, adds_last (desk _ _ _ _) _ _ _ _ _ (desk _ _ _ _) _ c.run-ran.ensures.log_run_promise i.few c.if-ran.true, i.whole)

-- one more run: it has come on
pub loop-state-smaller : goal.loop-state-smaller
loop-state-smaller g c =
    let i = c.loop-state.invariant in
    let o = c.run-ran.ensures.run_onward.1 (omega (arith, i.buffer)) c.if-ran.false in
    omega (arith, o.0, o.1)

pub loop-state-preserved : goal.loop-state-preserved
loop-state-preserved g c =
    let i = c.loop-state.invariant in
    let r = c.run-ran in
    let o = r.ensures.run_onward.1 (omega (arith, i.buffer)) c.if-ran.false in
    let m = adds-more (desk _ _ _ _) _ _ _ _ _ (desk _ _ _ _) _ r.ensures.log_run_promise i.few c.if-ran.false in
    record {
      words = r.auto.state ∙ i.words;
      streams = r.auto.stream_memory ∙ i.streams;
      messages = r.auto.message_memory ∙ i.messages;
      reply = r.auto.response ∙ i.reply;
      buffer = r.auto.out ∙ i.buffer;
      few = few-behind (desk _ _ _ _) _ _ _ _ _ (desk _ _ _ _) _ r.ensures.log_run_promise i.few;
      inside = o.1;
      fits = omega (arith, o.0, i.fits, i.buffer, r.ensures.run_onward.0);
      whole = omega (arith, m, i.whole);
    }

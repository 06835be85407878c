-- `lists::copy` meets its contract: each turn copies one byte more, and at the end all are copied.
use Rattle.std.proofs.Common.{◌≡◌, ◌∙◌, ap, length, arith, rules}
use lib.Seq.{paste, paste-zero}
use Rattle.lists.proofs.Written.{copy_next, copied}
use Rattle.lists.proofs.copy.Goals as goal

pub loop-i-init : goal.loop-i-init
loop-i-init c = (search rules, paste-zero _ 0 c.args.bytes.now, search rules)

pub loop-i-preserved : goal.loop-i-preserved
loop-i-preserved c = (search rules, copy_next _ _ _ _ c.loop-i-test.true c.requires c.loop-i.invariant.1, search rules)

pub returns : goal.returns
returns c =
    let e : c.loop-i.i ≡ length c.args.bytes.now = omega arith in
    c.loop-i.invariant.1 ∙ (ap (paste _ 0 _) e ∙ copied _ _)

-- Each example by computation.
use mathlib.Core.Path.{refl}
use Rattle.paper_examples.specs.Table.{ExamplesHold, ExamplesOf02}
use Rattle.paper_examples.proofs.Computing.{computing}

pub examples_hold : ExamplesHold
unfolding computing
examples_hold = (refl, (refl, (refl, (refl, (refl, (refl, (refl, (refl, (refl, (refl, (refl, (refl, (refl, (refl, (refl, tt)))))))))))))))

pub examples_of_02 : ExamplesOf02
unfolding computing
examples_of_02 = ((refl, (refl, (refl, (refl, (refl, tt))))), ((refl, (refl, (refl, (refl, (refl, tt))))), tt))

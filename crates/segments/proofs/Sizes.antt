-- What the tests of rows 18 and 14 leave.
use Rattle.sizes.proofs.Laws.{mtu_fits}
use Rattle.writing.proofs.Sizes.{good-size}

pub ruleset tested = (mtu_fits, good-size)

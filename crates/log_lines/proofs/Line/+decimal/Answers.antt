-- `log_lines::Line::decimal` meets its contract: the quotient's digits stand where it puts them, and the last digit behind them.
use Rattle.std.proofs.Common.{ℕ, ◌<◌, ◌≤◌, ◌/◌, arith, subst}
use Rattle.std.proofs.Math.Nat.{mod-lt}
use Rattle.log_lines.proofs.Decimal.{less}
use Rattle.log_lines.proofs.Digits.{some, one_more, only_digit, last_digit}
use Rattle.log_lines.proofs.Line.+decimal.Goals as goal

-- a number of one digit
pub digit-requires : goal.digit-requires
digit-requires t c =
    let small : c.args.n < 10 = omega (arith, c.if-n-lt10.true) in
    (omega (arith, c.requires, some c.args.n small), small)

pub returns-then-n-lt10 : goal.returns-then-n-lt10
returns-then-n-lt10 t c = only_digit _ (omega (arith, c.if-n-lt10.true)) c.digit.ensures

-- the quotient first, then the last digit
pub decimal-requires : goal.decimal-requires
decimal-requires t c =
    let large : 10 ≤ c.args.n = omega (arith, c.if-n-lt10.false) in
    (subst (λ (j : ℕ). c.args.n / 10 < j) c.decreases (less c.args.n large), omega (arith, c.requires, one_more c.args.n large))

pub digit-requires-2 : goal.digit-requires-2
digit-requires-2 t c =
    (omega (arith, c.requires, one_more c.args.n c.if-n-lt10.false, c.decimal.ensures.behind, c.decimal.ensures.size), mod-lt c.args.n (omega arith))

pub returns : goal.returns
returns t c = last_digit _ c.if-n-lt10.false c.requires c.decimal.ensures c.digit-2.ensures

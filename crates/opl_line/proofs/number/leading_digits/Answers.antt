use Rattle.std.proofs.Common.{arith}
use Rattle.opl_line.proofs.NumberLaws.{below_power}
use Rattle.opl_line.proofs.number.leading_digits.Goals as goal

pub returns-then-text-most-clause-bound : goal.returns-then-text-most-clause-bound
returns-then-text-most-clause-bound c =
    below_power _ c.digits_before.result.1 _ c.digits_before.ensures.bound c.digits_before.ensures.within

pub returns-else-text-most-clause-bound : goal.returns-else-text-most-clause-bound
returns-else-text-most-clause-bound c = below_power _ c.digits_before-else-text-most.result.1 _ c.digits_before-else-text-most.ensures.bound
    (omega arith)

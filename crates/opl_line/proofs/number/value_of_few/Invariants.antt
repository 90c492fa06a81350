use Rattle.opl_line.proofs.NumberLaws.{IsFewTo}
use Rattle.opl_line.proofs.number.value_of_few.Given as goal

abbrev pub invariant-loop-digit : goal.invariant-loop-digit
invariant-loop-digit l = IsFewTo l.digits l.digit-index l.number

use Rattle.opl_line.proofs.NumberLaws.{IsReadTo}
use Rattle.opl_line.proofs.number.read_number.Given as goal

abbrev pub invariant-loop-digit : goal.invariant-loop-digit
invariant-loop-digit l = IsReadTo l.digits l.digit-index l.number

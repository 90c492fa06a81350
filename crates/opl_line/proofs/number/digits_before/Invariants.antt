use Rattle.opl_line.proofs.NumberLaws.{IsFewTo}
use Rattle.opl_line.proofs.number.digits_before.Given as goal

abbrev pub invariant-loop-place : goal.invariant-loop-place
invariant-loop-place l = IsFewTo l.text l.place l.number

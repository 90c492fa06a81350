use Rattle.opl_line.proofs.TextLaws.{IsHexTo}
use Rattle.opl_line.proofs.escape.scalar_of.Given as goal

abbrev pub invariant-loop-digit : goal.invariant-loop-digit
invariant-loop-digit l = IsHexTo l.digits l.digit-index l.code

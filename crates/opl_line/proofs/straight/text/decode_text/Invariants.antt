use Rattle.std.proofs.Common.{length}
use Rattle.opl_line.proofs.StraightTextLaws.{IsReadTo}
use Rattle.opl_line.proofs.straight.text.decode_text.Given as goal

abbrev pub invariant-escapes : goal.invariant-escapes
invariant-escapes l = IsReadTo l.fn.bytes l.text l.rest

abbrev pub decreases-escapes : goal.decreases-escapes
decreases-escapes l = length l.rest

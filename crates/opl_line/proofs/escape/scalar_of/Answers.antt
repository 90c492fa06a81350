use Rattle.std.proofs.Common.{arith}
use Rattle.opl_line.proofs.TextLaws.{small_code}
use Rattle.opl_line.proofs.escape.scalar_of.Goals as goal

pub overflow_mul-code : goal.overflow_mul-code
overflow_mul-code c = omega (arith, small_code c.loop-digit.digit-index c.loop-digit.code (omega arith) c.loop-digit.invariant.bound)

pub overflow_add-code : goal.overflow_add-code
overflow_add-code c = omega (
  arith,
  small_code c.loop-digit.digit-index c.loop-digit.code (omega arith) c.loop-digit.invariant.bound,
  c.in-Some.ensures,
)

use Rattle.std.proofs.Common.{arith, rules}
use Rattle.osm_model.proofs.EscapeLaws.{four_digits}
use Rattle.osm_model.proofs.escape.four_digit_escape.Goals as goal

pub returns : goal.returns
returns c = rw (four_digits c.args.code (omega arith) (omega arith)) (search rules)

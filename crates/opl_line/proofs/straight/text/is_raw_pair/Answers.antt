use Rattle.std.proofs.Common.{arith}
use Rattle.opl_line.proofs.StraightTextLaws.{latin_pair, other_pair}
use Rattle.opl_line.proofs.straight.text.is_raw_pair.Goals as goal

pub returns-in-161-to-191 : goal.returns-in-161-to-191
returns-in-161-to-191 c = latin_pair c.args.lead c.args.next (omega arith) (omega arith) (omega arith) (λ e. omega arith)

pub returns-in-128-to-191 : goal.returns-in-128-to-191
returns-in-128-to-191 c = other_pair c.args.lead c.args.next (omega arith) (omega arith) (omega arith) (omega arith)

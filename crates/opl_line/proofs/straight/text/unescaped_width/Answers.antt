use Rattle.std.proofs.Common.{rules}
use Rattle.opl_line.proofs.StraightTextLaws.{raw_first}
use Rattle.opl_line.proofs.straight.text.unescaped_width.Goals as goal

pub returns-then-is_raw_byte-clause-raw : goal.returns-then-is_raw_byte-clause-raw
returns-then-is_raw_byte-clause-raw c = raw_first c.args.text.now (search rules) (search rules)

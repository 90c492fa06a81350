use Rattle.std.proofs.Common.{rules}
use Rattle.opl_line.proofs.line.write_line.Goals as goal

pub returns : goal.returns
returns c = search rules

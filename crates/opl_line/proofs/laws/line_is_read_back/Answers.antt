use Rattle.opl_line.proofs.WholeLineLaws.{line_is_read_back}
use Rattle.opl_line.proofs.laws.line_is_read_back.Goals as goal

pub returns : goal.returns
returns c = line_is_read_back

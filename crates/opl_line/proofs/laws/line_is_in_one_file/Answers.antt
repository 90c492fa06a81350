use Rattle.opl_line.proofs.WholeLineLaws.{line_is_in_one_file}
use Rattle.opl_line.proofs.laws.line_is_in_one_file.Goals as goal

pub returns : goal.returns
returns c = line_is_in_one_file

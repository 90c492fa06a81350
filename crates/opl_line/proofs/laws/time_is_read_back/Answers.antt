use Rattle.opl_line.proofs.TimeLaws.{time_is_read_back}
use Rattle.opl_line.proofs.laws.time_is_read_back.Goals as goal

pub returns : goal.returns
returns c = time_is_read_back

use Rattle.opl_line.proofs.CoordinateLaws.{coordinate_is_read_back}
use Rattle.opl_line.proofs.laws.coordinate_is_read_back.Goals as goal

pub returns : goal.returns
returns c = coordinate_is_read_back

use Rattle.opl_line.proofs.CanonicalLaws.{number_is_read_back}
use Rattle.opl_line.proofs.laws.number_is_read_back.Goals as goal

pub returns : goal.returns
returns c = number_is_read_back

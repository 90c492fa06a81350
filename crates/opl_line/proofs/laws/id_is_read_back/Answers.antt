use Rattle.opl_line.proofs.CanonicalLaws.{id_is_read_back}
use Rattle.opl_line.proofs.laws.id_is_read_back.Goals as goal

pub returns : goal.returns
returns c = id_is_read_back

use Rattle.opl_line.proofs.SpellsLaws.{read_is_spelled}
use Rattle.opl_line.proofs.laws.read_is_spelled.Goals as goal

pub returns : goal.returns
returns c = read_is_spelled

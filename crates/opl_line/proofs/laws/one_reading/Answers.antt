use Rattle.opl_line.proofs.SpellsLaws.{one_reading}
use Rattle.opl_line.proofs.laws.one_reading.Goals as goal

pub returns : goal.returns
returns c = one_reading

use Rattle.opl_line.proofs.LineReasonLaws.{reason_spells_nothing}
use Rattle.opl_line.proofs.laws.reason_spells_nothing.Goals as goal

pub returns : goal.returns
returns c = reason_spells_nothing

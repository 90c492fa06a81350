use Rattle.opl_line.proofs.SpellsLaws.{skipped_spells_nothing}
use Rattle.opl_line.proofs.laws.skipped_spells_nothing.Goals as goal

pub returns : goal.returns
returns c = skipped_spells_nothing

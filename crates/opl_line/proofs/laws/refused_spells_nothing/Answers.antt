use Rattle.opl_line.proofs.SpellsLaws.{refused_spells_nothing}
use Rattle.opl_line.proofs.laws.refused_spells_nothing.Goals as goal

pub returns : goal.returns
returns c = refused_spells_nothing

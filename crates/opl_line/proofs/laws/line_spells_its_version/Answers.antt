use Rattle.opl_line.proofs.WholeLineLaws.{line_spells_its_version}
use Rattle.opl_line.proofs.laws.line_spells_its_version.Goals as goal

pub returns : goal.returns
returns c = line_spells_its_version

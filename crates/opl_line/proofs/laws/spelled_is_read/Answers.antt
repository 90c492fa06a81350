use Rattle.opl_line.proofs.SpellsLaws.{spelled_is_read}
use Rattle.opl_line.proofs.laws.spelled_is_read.Goals as goal

pub returns : goal.returns
returns c = spelled_is_read

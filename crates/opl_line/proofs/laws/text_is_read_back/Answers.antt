use Rattle.opl_line.proofs.EscapedLaws.{text_is_read_back}
use Rattle.opl_line.proofs.laws.text_is_read_back.Goals as goal

pub returns : goal.returns
returns c = text_is_read_back

use Rattle.opl_line.proofs.LineReasonLaws.{neither_has_one_reason}
use Rattle.opl_line.proofs.laws.neither_has_one_reason.Goals as goal

pub returns : goal.returns
returns c = neither_has_one_reason

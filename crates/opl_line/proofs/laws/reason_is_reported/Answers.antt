use Rattle.opl_line.proofs.LineReasonLaws.{reason_is_reported}
use Rattle.opl_line.proofs.laws.reason_is_reported.Goals as goal

pub returns : goal.returns
returns c = reason_is_reported

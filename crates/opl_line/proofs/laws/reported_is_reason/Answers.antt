use Rattle.opl_line.proofs.LineReasonLaws.{reported_is_reason}
use Rattle.opl_line.proofs.laws.reported_is_reason.Goals as goal

pub returns : goal.returns
returns c = reported_is_reason

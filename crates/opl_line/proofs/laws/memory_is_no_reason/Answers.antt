use Rattle.opl_line.proofs.MemoryLaws.{memory_is_no_reason}
use Rattle.opl_line.proofs.laws.memory_is_no_reason.Goals as goal

pub returns : goal.returns
returns c = memory_is_no_reason

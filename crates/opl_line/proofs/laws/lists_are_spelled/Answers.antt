use Rattle.opl_line.proofs.ListBackLaws.{lists_are_spelled}
use Rattle.opl_line.proofs.laws.lists_are_spelled.Goals as goal

pub returns : goal.returns
returns c = lists_are_spelled

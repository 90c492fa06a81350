use Rattle.opl_line.proofs.NumberLaws.{scale_below}
use Rattle.opl_line.proofs.number.scale.Goals as goal

pub returns-clause-bound : goal.returns-clause-bound
returns-clause-bound c = rw c.pow.ensures (scale_below c.args.decimals)

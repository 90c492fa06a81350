use Rattle.std.proofs.Common.{rules}
use Rattle.std.specs.Int.{int_wrap}
use Rattle.o5_codec.proofs.read.base.reduced.Goals as goal

pub returns : goal.returns
unfolding int_wrap
returns c = search rules

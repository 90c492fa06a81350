use Rattle.o5_codec.proofs.StepLaws.{set_found, set_only}
use Rattle.o5_codec.proofs.laws.sets_are_read.Goals as goal

pub returns : goal.returns
returns c = λ k s content x. (set_found k s content x, set_only k s content x)

use Rattle.o5_codec.proofs.StepLaws.{one_version}
use Rattle.o5_codec.proofs.laws.one_version.Goals as goal

pub returns : goal.returns
returns c = one_version

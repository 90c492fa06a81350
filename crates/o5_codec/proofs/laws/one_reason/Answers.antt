use Rattle.o5_codec.proofs.ResultLaws.{only_reason}
use Rattle.o5_codec.proofs.laws.one_reason.Goals as goal

pub returns : goal.returns
returns c = only_reason

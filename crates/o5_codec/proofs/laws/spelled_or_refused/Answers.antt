use Rattle.o5_codec.proofs.ResultLaws.{either_result}
use Rattle.o5_codec.proofs.laws.spelled_or_refused.Goals as goal

pub returns : goal.returns
returns c = either_result

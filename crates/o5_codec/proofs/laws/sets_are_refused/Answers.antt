use Rattle.o5_codec.proofs.RefusalLaws.{set_refused}
use Rattle.o5_codec.proofs.laws.sets_are_refused.Goals as goal

pub returns : goal.returns
returns c = set_refused

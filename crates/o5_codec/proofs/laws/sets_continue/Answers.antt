use Rattle.o5_codec.proofs.EarlierLaws.{sets_continue}
use Rattle.o5_codec.proofs.laws.sets_continue.Goals as goal

pub returns : goal.returns
returns c = sets_continue

use Rattle.o5_codec.proofs.EarlierLaws.{not_mixed}
use Rattle.o5_codec.proofs.laws.lists_are_not_mixed.Goals as goal

pub returns : goal.returns
returns c = not_mixed

use Rattle.o5_codec.proofs.EarlierLaws.{sets_found, sets_only}
use Rattle.o5_codec.proofs.laws.lists_are_read.Goals as goal

pub returns : goal.returns
returns c = λ s sets x. (sets_found s sets x, λ inline spells. sets_only s sets x.0 inline x.1 spells)

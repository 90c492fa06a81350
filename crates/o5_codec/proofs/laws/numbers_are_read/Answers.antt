use Rattle.o5_codec.proofs.NumberLaws.{number_found, number_only}
use Rattle.o5_codec.proofs.laws.numbers_are_read.Goals as goal

pub returns : goal.returns
returns c = λ bytes x. (number_found bytes x, number_only bytes x)

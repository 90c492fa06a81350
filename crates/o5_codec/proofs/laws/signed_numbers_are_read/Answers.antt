use Rattle.o5_codec.proofs.NumberLaws.{signed_found, signed_only}
use Rattle.o5_codec.proofs.laws.signed_numbers_are_read.Goals as goal

pub returns : goal.returns
returns c = λ bytes x. (signed_found bytes x, signed_only bytes x)

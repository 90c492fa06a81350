use Rattle.o5_codec.proofs.StringLaws.{strings_found, strings_only}
use Rattle.o5_codec.proofs.laws.strings_are_read.Goals as goal

pub returns : goal.returns
returns c = λ form table bytes x. (strings_found form table bytes x, strings_only form table bytes x)

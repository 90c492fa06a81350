use Rattle.o5_codec.proofs.WrittenLists.{sets_read}
use Rattle.o5_codec.proofs.laws.written_sets_are_read.Goals as goal

pub returns : goal.returns
returns c = sets_read

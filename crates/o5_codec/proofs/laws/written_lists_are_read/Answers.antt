use Rattle.o5_codec.proofs.WrittenLists.{lists_read}
use Rattle.o5_codec.proofs.laws.written_lists_are_read.Goals as goal

pub returns : goal.returns
returns c = lists_read

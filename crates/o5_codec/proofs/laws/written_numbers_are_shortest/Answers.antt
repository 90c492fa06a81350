use Rattle.o5_codec.proofs.ShortestLaws.{numbers_shortest}
use Rattle.o5_codec.proofs.laws.written_numbers_are_shortest.Goals as goal

pub returns : goal.returns
returns c = numbers_shortest

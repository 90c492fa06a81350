use Rattle.o5_codec.proofs.EarlierLaws.{from_new}
use Rattle.o5_codec.proofs.laws.lists_determine_segments.Goals as goal

pub returns : goal.returns
returns c = from_new

use Rattle.std.proofs.Common.{rules}
use Rattle.o5_codec.proofs.read.segment.Segment.clear.Goals as goal

pub returns : goal.returns
returns c = search rules

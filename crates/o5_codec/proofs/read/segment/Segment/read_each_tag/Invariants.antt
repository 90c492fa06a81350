use Rattle.std.proofs.Common.{length}
use Rattle.o5_codec.specs.Body.{tag_at}
use Rattle.o5_codec.proofs.ItemSteps.{HasItems}
use Rattle.o5_codec.proofs.read.segment.Segment.read_each_tag.Given as goal

abbrev pub invariant-loop-rest : goal.invariant-loop-rest
invariant-loop-rest l = HasItems tag_at l.fn.self l.bytes l.tags.items l.self l.rest

abbrev pub decreases-loop-rest : goal.decreases-loop-rest
decreases-loop-rest l = length l.rest

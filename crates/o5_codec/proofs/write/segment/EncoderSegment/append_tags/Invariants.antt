use Rattle.std.proofs.Common.{drop}
use Rattle.o5_codec.specs.Writing.{tag_spelling}
use Rattle.o5_codec.proofs.TurnSteps.{Turns}
use Rattle.o5_codec.proofs.write.segment.EncoderSegment.append_tags.Given as goal

abbrev pub invariant-loop-tag : goal.invariant-loop-tag
invariant-loop-tag l = Turns tag_spelling l.tags (drop l.tag-index l.tags) l.fn.out l.out l.fn.self l.self

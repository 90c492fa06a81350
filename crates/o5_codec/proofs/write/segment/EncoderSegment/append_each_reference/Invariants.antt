use Rattle.std.proofs.Common.{drop}
use Rattle.o5_codec.specs.Writing.{reference_spelling}
use Rattle.o5_codec.proofs.TurnSteps.{Turns}
use Rattle.o5_codec.proofs.write.segment.EncoderSegment.append_each_reference.Given as goal

abbrev pub invariant-loop-id : goal.invariant-loop-id
invariant-loop-id l = Turns reference_spelling l.ids (drop l.id-index l.ids) l.fn.out l.out l.fn.self l.self

use Rattle.std.proofs.Common.{drop}
use Rattle.o5_codec.specs.Writing.{member_spelling}
use Rattle.o5_codec.proofs.TurnSteps.{Turns}
use Rattle.o5_codec.proofs.write.segment.EncoderSegment.append_each_member.Given as goal

abbrev pub invariant-loop-member : goal.invariant-loop-member
invariant-loop-member l = Turns member_spelling l.members (drop l.member-index l.members) l.fn.out l.out l.fn.self l.self

use Rattle.o5_codec.proofs.NumberSteps.{Read}
use Rattle.o5_codec.proofs.read.number.read_groups.Given as goal

abbrev pub invariant-loop-i : goal.invariant-loop-i
invariant-loop-i l = Read l.bytes l.i l.value l.weight

use Rattle.std.proofs.Common.{rules, arith}
use Rattle.o5_codec.specs.Encoder.{segment_before, spelled_set, writer_after}
use Rattle.o5_codec.proofs.FrontLaws.{after_two}
use Rattle.o5_codec.proofs.write.encoder.Encoder.append_version.Goals as goal

pub returns-clause-bytes : goal.returns-clause-bytes
unfolding segment_before spelled_set
returns-clause-bytes c = grind (arith, after_two)

pub returns-clause-written : goal.returns-clause-written
unfolding segment_before writer_after
returns-clause-written c = search rules

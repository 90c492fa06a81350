use Rattle.std.proofs.Common.{ap, sym, ◌∙◌}
use Rattle.o5_codec.specs.Encoder.{writer_after}
use Rattle.o5_codec.proofs.write.tests.Writer.write.Goals as goal

pub invariant_of-self-2 : goal.invariant_of-self-2
unfolding writer_after
invariant_of-self-2 c = record { follows = λ going. ap (λ s. s.written.last) c.in_ok-set.ensures.written.state ∙ sym c.kind-self.ensures }

use Rattle.std.proofs.Common.{ap, sym, ◌∙◌}
use Rattle.o5_codec.specs.Encoder.{writer_after}
use Rattle.trials.proofs.streams.write_sets.Goals as goal

pub loop-index-preserved : goal.loop-index-preserved
unfolding writer_after
loop-index-preserved c = λ going. ap (λ s. s.written.last) c.in-Ok.ensures.written.state ∙ sym c.kind-last.ensures

use Rattle.std.proofs.Common.{◌≡◌, false}
use Rattle.trials.proofs.streams.write_sets.Given as goal

abbrev pub invariant-loop-index : goal.invariant-loop-index
invariant-loop-index l = l.encoder.failed ≡ false → l.encoder.written.last ≡ l.last

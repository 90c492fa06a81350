use Rattle.std.specs.Io.KnownBytes.{Keeps}
use Rattle.osm_mirror.proofs.run.retried.write_retried.Given as goal

abbrev pub invariant-tries : goal.invariant-tries
invariant-tries g l = Keeps (g.W.Write.contents l.initial.writer) (g.W.Write.contents l.writer)

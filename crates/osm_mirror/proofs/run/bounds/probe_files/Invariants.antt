use Rattle.std.proofs.Common.{take}
use Rattle.osm_mirror.specs.run.Probes.{FindsInAll}
use Rattle.osm_mirror.proofs.run.bounds.probe_files.Given as goal

abbrev pub invariant-files : goal.invariant-files
invariant-files g l = FindsInAll (λ file. g.F.ReadAt.bytes file.now) l.step (take l.input l.files) l.found.items

use Rattle.std.proofs.Common.{◌<◌, ◌^◌, take}
use Rattle.osm_mirror.specs.run.Probes.{IsTotal}
use Rattle.osm_mirror.proofs.run.bounds.total_size.Given as goal

abbrev pub invariant-files : goal.invariant-files
invariant-files g l = (l.total < 2 ^ 62) × IsTotal (λ file. g.F.ReadAt.bytes file.now) (take l.input l.files) l.total

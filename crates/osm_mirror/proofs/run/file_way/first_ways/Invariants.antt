use Rattle.std.proofs.Common.{take}
use Rattle.osm_mirror.specs.run.FilesJob.{FilesFit}
use Rattle.osm_mirror.proofs.run.file_way.first_ways.Given as goal

abbrev pub invariant-files : goal.invariant-files
invariant-files g l = FilesFit g.F.ReadAt.bytes l.order (take l.input l.files) l.ways.items

use Rattle.std.proofs.Common.{take}
use Rattle.std.specs.List.{All}
use Rattle.osm_mirror.specs.run.FilesJob.{EndsByRule}
use Rattle.osm_mirror.proofs.run.file_end.refuse_cut.Given as goal

abbrev pub invariant-files : goal.invariant-files
invariant-files g l = All (EndsByRule g.F.ReadAt.bytes) (take l.input l.files)

use Rattle.std.proofs.Common.{take}
use Rattle.std.specs.List.{All}
use Rattle.osm_mirror.specs.run.FilesRefusal.{AreSound}
use Rattle.osm_mirror.proofs.run.first_fault.refuse_faulty.Given as goal

abbrev pub invariant-files : goal.invariant-files
invariant-files g l = All (AreSound g.F.ReadAt.bytes) (take l.input l.files)

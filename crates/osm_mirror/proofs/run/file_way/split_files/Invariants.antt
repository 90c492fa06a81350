use Rattle.std.proofs.Common.{◌≡◌, None, length, take}
use Rattle.osm_mirror.specs.declared.run.files_job.Order.TheVariants.{Any}
use Rattle.osm_mirror.specs.run.FilesRefusal.{AreSettled}
use Rattle.osm_mirror.specs.run.FilesJob.{FilesFit}
use Rattle.osm_mirror.proofs.run.file_way.split_files.Given as goal

abbrev pub invariant-files : goal.invariant-files
invariant-files g l = FilesFit g.F.ReadAt.bytes Any l.files l.ways × (length l.ways ≡ length l.fn.ways)
    × (l.tried ≡ None → AreSettled (take l.file l.ways))

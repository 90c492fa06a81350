use Rattle.std.proofs.Common.{◌≡◌, take, map}
use Rattle.osm_mirror.specs.run.FilesJob.{opened_of}
use Rattle.osm_mirror.proofs.run.files_job.opened.Given as goal

abbrev pub invariant-files : goal.invariant-files
invariant-files g l = l.opened.items ≡ map opened_of (take l.file-index l.files)

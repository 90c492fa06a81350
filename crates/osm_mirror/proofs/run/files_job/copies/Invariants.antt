use Rattle.std.proofs.Common.{◌≡◌, take}
use Rattle.osm_mirror.proofs.run.files_job.copies.Given as goal

abbrev pub invariant-files : goal.invariant-files
invariant-files g l = l.copies.items ≡ take l.file-index l.files

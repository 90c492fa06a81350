use Rattle.osm_mirror.proofs.run_laws.SlicedFileLaws.{slices_write_the_job}
use Rattle.osm_mirror.proofs.laws.slices_write_the_job.Goals as goal

pub returns : goal.returns
returns c = slices_write_the_job

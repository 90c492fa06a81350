use Rattle.osm_mirror.proofs.run_laws.SlicedFileLaws.{slices_hold_the_file}
use Rattle.osm_mirror.proofs.laws.slices_hold_the_file.Goals as goal

pub returns : goal.returns
returns c = slices_hold_the_file

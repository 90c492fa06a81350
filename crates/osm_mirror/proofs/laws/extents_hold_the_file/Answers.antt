use Rattle.osm_mirror.proofs.run_laws.ShardLaws.{extents_hold_the_file}
use Rattle.osm_mirror.proofs.laws.extents_hold_the_file.Goals as goal

pub returns : goal.returns
returns c = extents_hold_the_file

use Rattle.osm_mirror.proofs.fleet_laws.MergesLaws.{merges_of_the_same_files}
use Rattle.osm_mirror.proofs.laws.merges_of_the_same_files.Goals as goal

pub returns : goal.returns
returns c = merges_of_the_same_files

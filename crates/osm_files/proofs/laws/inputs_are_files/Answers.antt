use Rattle.osm_files.proofs.LoadFaults.{inputs_are_files}
use Rattle.osm_files.proofs.laws.inputs_are_files.Goals as goal

pub returns : goal.returns
returns c = inputs_are_files

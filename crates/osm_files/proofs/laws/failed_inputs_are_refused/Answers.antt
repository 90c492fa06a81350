use Rattle.osm_files.proofs.LoadFaults.{failed_inputs}
use Rattle.osm_files.proofs.laws.failed_inputs_are_refused.Goals as goal

pub returns : goal.returns
returns c = failed_inputs

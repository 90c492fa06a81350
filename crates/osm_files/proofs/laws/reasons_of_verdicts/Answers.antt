use Rattle.osm_files.proofs.LoadFaults.{reasons_of_verdicts}
use Rattle.osm_files.proofs.laws.reasons_of_verdicts.Goals as goal

pub returns : goal.returns
returns c = reasons_of_verdicts

use Rattle.osm_files.proofs.HoldLaws.{failed_source_ends}
use Rattle.osm_files.proofs.laws.failed_source_ends.Goals as goal

pub returns : goal.returns
returns c = failed_source_ends

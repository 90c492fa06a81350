use Rattle.osm_files.proofs.HoldLaws.{long_source_ends}
use Rattle.osm_files.proofs.laws.long_source_ends.Goals as goal

pub returns : goal.returns
returns c = long_source_ends

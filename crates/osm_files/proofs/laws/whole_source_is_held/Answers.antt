use Rattle.osm_files.proofs.HoldLaws.{whole_source_is_held}
use Rattle.osm_files.proofs.laws.whole_source_is_held.Goals as goal

pub returns : goal.returns
returns c = whole_source_is_held

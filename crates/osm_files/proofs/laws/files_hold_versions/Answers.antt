use Rattle.osm_files.proofs.RangeLaws.{files_hold_versions}
use Rattle.osm_files.proofs.laws.files_hold_versions.Goals as goal

pub returns : goal.returns
returns c = files_hold_versions

use Rattle.osm_files.proofs.RiseLaws.{source_rises}
use Rattle.osm_files.proofs.laws.sources_ascend.Goals as goal

pub returns : goal.returns
returns c = source_rises

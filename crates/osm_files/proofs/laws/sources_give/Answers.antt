use Rattle.osm_files.proofs.FirstFaultLaws.{sources_give}
use Rattle.osm_files.proofs.laws.sources_give.Goals as goal

pub returns : goal.returns
returns c = sources_give

use Rattle.osm_files.proofs.FaultyLaws.{malformed_stays}
use Rattle.osm_files.proofs.laws.malformed_stays.Goals as goal

pub returns : goal.returns
returns c = malformed_stays

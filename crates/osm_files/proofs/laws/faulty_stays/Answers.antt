use Rattle.osm_files.proofs.FaultyLaws.{faulty_stays}
use Rattle.osm_files.proofs.laws.faulty_stays.Goals as goal

pub returns : goal.returns
returns c = faulty_stays

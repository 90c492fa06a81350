use Rattle.osm_files.proofs.FaultyLaws.{faulty_or_closed}
use Rattle.osm_files.proofs.laws.faulty_or_closed.Goals as goal

pub returns : goal.returns
returns c = faulty_or_closed

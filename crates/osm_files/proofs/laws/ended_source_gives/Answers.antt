use Rattle.osm_files.proofs.EndedLaws.{ended_gives}
use Rattle.osm_files.proofs.laws.ended_source_gives.Goals as goal

pub returns : goal.returns
returns g c = ended_gives g.R.Input.can_give

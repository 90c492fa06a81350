use Rattle.osm_files.proofs.EndedLaws.{ended_well}
use Rattle.osm_files.proofs.laws.ended_source_ends_well.Goals as goal

pub returns : goal.returns
returns g c = ended_well g.R.Input.can_give

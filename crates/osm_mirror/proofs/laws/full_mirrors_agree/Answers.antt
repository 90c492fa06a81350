use Rattle.osm_mirror.proofs.fleet_laws.AgreeLaws.{full_agree}
use Rattle.osm_mirror.proofs.laws.full_mirrors_agree.Goals as goal

pub returns : goal.returns
returns c = full_agree

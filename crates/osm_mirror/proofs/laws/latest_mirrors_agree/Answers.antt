use Rattle.osm_mirror.proofs.fleet_laws.AgreeLaws.{latest_agree}
use Rattle.osm_mirror.proofs.laws.latest_mirrors_agree.Goals as goal

pub returns : goal.returns
returns c = latest_agree

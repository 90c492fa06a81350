use Rattle.osm_mirror.proofs.run_laws.KnownLaws.{jobs_known}
use Rattle.osm_mirror.proofs.laws.jobs_of_known.Goals as goal

pub returns : goal.returns
returns g c = jobs_known g.R.Input.can_give g.W.Output

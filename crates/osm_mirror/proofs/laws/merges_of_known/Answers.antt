use Rattle.osm_mirror.proofs.run_laws.KnownLaws.{merges_known}
use Rattle.osm_mirror.proofs.laws.merges_of_known.Goals as goal

pub returns : goal.returns
returns g c = merges_known g.R.Input.can_give g.W.Output

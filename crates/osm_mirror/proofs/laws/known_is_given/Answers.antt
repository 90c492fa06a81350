use Rattle.osm_mirror.proofs.run_laws.KnownLaws.{known_given}
use Rattle.osm_mirror.proofs.laws.known_is_given.Goals as goal

pub returns : goal.returns
returns g c = known_given g.R.Input.can_give c.args.inputs.now

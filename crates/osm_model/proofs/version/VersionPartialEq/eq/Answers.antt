use Rattle.osm_model.proofs.VersionLaws.{same_test}
use Rattle.osm_model.proofs.version.VersionPartialEq.eq.Goals as goal

pub returns : goal.returns
returns c = same_test c.is_same.result c.args.self.now c.args.other.now c.is_same.ensures

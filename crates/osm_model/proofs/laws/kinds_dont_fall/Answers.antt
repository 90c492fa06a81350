use Rattle.osm_model.proofs.KindLaws.{kinds_dont_fall}
use Rattle.osm_model.proofs.laws.kinds_dont_fall.Goals as goal

pub returns : goal.returns
returns c = kinds_dont_fall

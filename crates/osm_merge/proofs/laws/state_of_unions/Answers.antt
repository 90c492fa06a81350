use Rattle.osm_merge.proofs.SnapLaws.{state_of_unions}
use Rattle.osm_merge.proofs.laws.state_of_unions.Goals as goal

pub returns : goal.returns
returns c = state_of_unions

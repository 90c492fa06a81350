use Rattle.osm_merge.proofs.SnapLaws.{state_of_union}
use Rattle.osm_merge.proofs.laws.state_of_union.Goals as goal

pub returns : goal.returns
returns c = state_of_union

use Rattle.osm_merge.proofs.UnionAllLaws.{union_with_empty}
use Rattle.osm_merge.proofs.laws.union_with_empty.Goals as goal

pub returns : goal.returns
returns c = union_with_empty

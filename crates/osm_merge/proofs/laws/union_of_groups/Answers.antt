use Rattle.osm_merge.proofs.UnionAllLaws.{union_of_groups}
use Rattle.osm_merge.proofs.laws.union_of_groups.Goals as goal

pub returns : goal.returns
returns c = union_of_groups

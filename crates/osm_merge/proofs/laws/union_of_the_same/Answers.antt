use Rattle.osm_merge.proofs.UnionAllLaws.{union_of_the_same}
use Rattle.osm_merge.proofs.laws.union_of_the_same.Goals as goal

pub returns : goal.returns
returns c = union_of_the_same

use Rattle.osm_merge.proofs.UnionAllLaws.{union_stays_in_range}
use Rattle.osm_merge.proofs.laws.union_stays_in_range.Goals as goal

pub returns : goal.returns
returns c = union_stays_in_range

use Rattle.osm_merge.proofs.SnapLaws.{snapshot_of_union}
use Rattle.osm_merge.proofs.laws.snapshot_of_union.Goals as goal

pub returns : goal.returns
returns c = snapshot_of_union

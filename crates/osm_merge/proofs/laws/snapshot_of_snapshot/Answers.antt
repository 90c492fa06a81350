use Rattle.osm_merge.proofs.SnapLaws.{snapshot_of_snapshot}
use Rattle.osm_merge.proofs.laws.snapshot_of_snapshot.Goals as goal

pub returns : goal.returns
returns c = snapshot_of_snapshot

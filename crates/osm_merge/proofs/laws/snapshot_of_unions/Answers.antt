use Rattle.osm_merge.proofs.SnapLaws.{snapshot_of_unions}
use Rattle.osm_merge.proofs.laws.snapshot_of_unions.Goals as goal

pub returns : goal.returns
returns c = snapshot_of_unions

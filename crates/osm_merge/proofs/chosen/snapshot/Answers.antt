use Rattle.std.proofs.Common.{rules}
use Rattle.osm_merge.proofs.chosen.snapshot.Goals as goal

pub returns : goal.returns
returns c = search rules

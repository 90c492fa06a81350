use Rattle.std.proofs.Common.{rules}
use Rattle.osm_merge.proofs.chosen.at.Goals as goal

pub returns : goal.returns
returns c = search rules

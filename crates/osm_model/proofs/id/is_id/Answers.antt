use Rattle.std.proofs.Common.{rules}
use Rattle.osm_model.proofs.id.is_id.Goals as goal

pub returns : goal.returns
returns c = search rules

use Rattle.std.proofs.Common.{rules}
use Rattle.osm_model.proofs.object.Object.order.Goals as goal

pub returns : goal.returns
returns c = search rules

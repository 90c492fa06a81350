use Rattle.std.proofs.Common.{rules}
use Rattle.osm_model.proofs.version.first_fault.Goals as goal

pub returns : goal.returns
returns c = search rules

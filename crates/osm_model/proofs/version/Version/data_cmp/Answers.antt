use Rattle.std.proofs.Common.{rules}
use Rattle.osm_model.proofs.version.Version.data_cmp.Goals as goal

pub returns : goal.returns
returns c = search rules

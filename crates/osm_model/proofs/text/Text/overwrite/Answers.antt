use Rattle.std.proofs.Common.{rules}
use Rattle.osm_model.proofs.text.Text.overwrite.Goals as goal

pub returns : goal.returns
returns c = search rules

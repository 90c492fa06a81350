use Rattle.osm_model.proofs.LineLaws.{line_injective}
use Rattle.osm_model.proofs.laws.line_determines_data.Goals as goal

pub returns : goal.returns
returns c = line_injective

use Rattle.osm_files.proofs.HoldLaws.{source_gives_held}
use Rattle.osm_files.proofs.laws.source_gives_held.Goals as goal

pub returns : goal.returns
returns c = source_gives_held

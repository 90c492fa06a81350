use Rattle.osm_files.proofs.SpellLaws.{unions_are_versions}
use Rattle.osm_files.proofs.laws.unions_are_versions.Goals as goal

pub returns : goal.returns
returns c = unions_are_versions

use Rattle.osm_files.proofs.SpellLaws.{held_are_versions}
use Rattle.osm_files.proofs.laws.held_are_versions.Goals as goal

pub returns : goal.returns
returns c = held_are_versions

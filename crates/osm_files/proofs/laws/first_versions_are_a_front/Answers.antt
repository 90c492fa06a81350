use Rattle.osm_files.proofs.SpellLaws.{first_in_front}
use Rattle.osm_files.proofs.laws.first_versions_are_a_front.Goals as goal

pub returns : goal.returns
returns c = first_in_front

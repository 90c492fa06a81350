use Rattle.osm_files.proofs.SpellLaws.{list_spelled}
use Rattle.osm_files.proofs.laws.list_is_spelled_as_its_set.Goals as goal

pub returns : goal.returns
returns c = list_spelled

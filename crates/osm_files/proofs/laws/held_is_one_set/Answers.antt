use Rattle.osm_files.proofs.SpellLaws.{held_is_one_set}
use Rattle.osm_files.proofs.laws.held_is_one_set.Goals as goal

pub returns : goal.returns
returns c = held_is_one_set

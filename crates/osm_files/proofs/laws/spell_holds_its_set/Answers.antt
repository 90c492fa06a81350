use Rattle.osm_files.proofs.SpellLaws.{spell_holds}
use Rattle.osm_files.proofs.laws.spell_holds_its_set.Goals as goal

pub returns : goal.returns
returns c = spell_holds

use Rattle.osm_files.proofs.SpellLaws.{spell_has_no_verdict}
use Rattle.osm_files.proofs.laws.spell_has_no_verdict.Goals as goal

pub returns : goal.returns
returns c = spell_has_no_verdict

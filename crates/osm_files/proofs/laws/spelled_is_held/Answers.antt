use Rattle.osm_files.proofs.SpellLaws.{spelled_is_held}
use Rattle.osm_files.proofs.laws.spelled_is_held.Goals as goal

pub returns : goal.returns
returns c = spelled_is_held

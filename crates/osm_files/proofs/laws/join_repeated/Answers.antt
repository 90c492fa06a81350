use Rattle.osm_files.proofs.SpellLaws.{join_repeated}
use Rattle.osm_files.proofs.laws.join_repeated.Goals as goal

pub returns : goal.returns
returns c = join_repeated

use Rattle.osm_files.proofs.SpellLaws.{files_join}
use Rattle.osm_files.proofs.laws.files_join_in_any_grouping.Goals as goal

pub returns : goal.returns
returns c = files_join

use Rattle.osm_files.proofs.SpellLaws.{join_in_any_grouping}
use Rattle.osm_files.proofs.laws.join_in_any_grouping.Goals as goal

pub returns : goal.returns
returns c = join_in_any_grouping

use Rattle.osm_files.proofs.SpellLaws.{join_in_any_order}
use Rattle.osm_files.proofs.laws.join_in_any_order.Goals as goal

pub returns : goal.returns
returns c = join_in_any_order

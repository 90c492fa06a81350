use Rattle.osm_files.proofs.SpellLaws.{each_may_follow}
use Rattle.osm_files.proofs.laws.each_may_follow.Goals as goal

pub returns : goal.returns
returns c = each_may_follow

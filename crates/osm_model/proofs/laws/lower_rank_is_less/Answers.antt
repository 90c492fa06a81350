use Rattle.osm_model.proofs.RankLaws.{lower_is_less}
use Rattle.osm_model.proofs.laws.lower_rank_is_less.Goals as goal

pub returns : goal.returns
returns c = lower_is_less

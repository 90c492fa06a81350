use Rattle.osm_model.proofs.TimeLaws.{time_law}
use Rattle.osm_model.proofs.laws.time_text_spells_the_moment.Goals as goal

pub returns : goal.returns
returns c = time_law

use Rattle.osm_files.proofs.RefusedLaws.{faulty_input_gives}
use Rattle.osm_files.proofs.laws.faulty_input_gives_the_groups_before.Goals as goal

pub returns : goal.returns
returns c = faulty_input_gives

use Rattle.osm_files.proofs.SpellLaws.{held_without_verdict}
use Rattle.osm_files.proofs.laws.held_without_verdict.Goals as goal

pub returns : goal.returns
returns c = held_without_verdict

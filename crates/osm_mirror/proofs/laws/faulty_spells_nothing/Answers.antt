use Rattle.osm_mirror.proofs.fleet_laws.PlanTextLaws.{faulty_spells_nothing}
use Rattle.osm_mirror.proofs.laws.faulty_spells_nothing.Goals as goal

pub returns : goal.returns
returns c = faulty_spells_nothing

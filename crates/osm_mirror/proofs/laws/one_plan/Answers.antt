use Rattle.osm_mirror.proofs.fleet_laws.PlanTextLaws.{one_plan}
use Rattle.osm_mirror.proofs.laws.one_plan.Goals as goal

pub returns : goal.returns
returns c = one_plan

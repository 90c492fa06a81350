use Rattle.osm_mirror.proofs.fleet_laws.PlanTextLaws.{fault_none}
use Rattle.osm_mirror.proofs.fleet.plan.read_plan.Goals as goal

pub returns-in-Ok-clause-none : goal.returns-in-Ok-clause-none
returns-in-Ok-clause-none c = fault_none c.args.text.now c.read_lines.result (rw c.in-Ok.ensures.cases.0 at c.read_lines.ensures.fault)

use Rattle.osm_files.specs.Units.{PastEnd}
use Rattle.osm_files.proofs.UnitSteps.{after_first}
use Rattle.osm_files.proofs.unit.read_after_end.Goals as goal

pub returns-in-Some : goal.returns-in-Some
returns-in-Some c = after_first c.args.bytes.now c.in-Some.field-0.now PastEnd c.in-Some.ensures.value

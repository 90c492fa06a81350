use Rattle.std.proofs.Common.{◌-◌, ◌^◌, List, Some}
use Rattle.osm_model.specs.Data.{VersionData}
use Rattle.osm_files.specs.Input.{Explained}
use Rattle.osm_files.specs.Position.{with_rest, units_or_failed, at_start_with}
use Rattle.osm_files.proofs.LoadLaws.{LoadsOn}
use Rattle.osm_files.proofs.load.read_units.Given as goal

abbrev pub invariant-units : goal.invariant-units
invariant-units g l =
    Explained (g.R.Input.can_give l.fn.reading.rest) (g.R.Input.can_give l.reading.rest) (λ c later. (versions : List VersionData)
    × LoadsOn (units_or_failed (at_start_with l.fn.reading.end l.fn.reading.input (Some c))) versions
    (units_or_failed (with_rest l.reading later)))

abbrev pub decreases-units : goal.decreases-units
decreases-units g l = 2 ^ 62 - l.reading.offset

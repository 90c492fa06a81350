use Rattle.std.proofs.Common.{◌≡◌, ◌↔◌, ◌-◌, ◌^◌, IsTrue, IfSome, Some}
use Rattle.std.specs.List.Sorted.{IsSorted}
use Rattle.osm_model.specs.Order.{key_cmp}
use Rattle.osm_files.specs.Input.{Explained}
use Rattle.osm_files.specs.Load.{format_of}
use Rattle.osm_files.specs.Position.{with_rest, rest_of_bytes, units_or_failed, at_start_with}
use Rattle.osm_files.proofs.LoadLaws.{LoadsOn}
use Rattle.osm_files.proofs.load.read_versions.Given as goal

abbrev pub invariant-units : goal.invariant-units
invariant-units g l = record {
  loads : Explained (g.R.Input.can_give l.fn.reading.rest) (g.R.Input.can_give l.reading.rest) (λ c later.
      LoadsOn (units_or_failed (at_start_with l.fn.reading.end l.fn.reading.input (Some c))) l.versions.items
      (units_or_failed (with_rest l.reading later))
      × IfSome (rest_of_bytes (at_start_with l.fn.reading.end l.fn.reading.input (Some c))) (λ x. l.format ≡ format_of x.bytes));
  sorted : IsTrue l.sorted ↔ IsSorted key_cmp l.versions.items;
}

abbrev pub decreases-units : goal.decreases-units
decreases-units g l = 2 ^ 62 - l.reading.offset

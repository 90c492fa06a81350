use Rattle.std.proofs.Common.{◌≡◌, ◌+◌, ◌≤◌, ◌∷◌, [], length}
use Rattle.osm_files.specs.Position.{Between, Keeps, units_or_failed, units_left}
use Rattle.osm_files.specs.Groups.{still_with_ready, IsGroup}
use Rattle.osm_files.proofs.group.Group.gather.Given as goal

abbrev pub invariant-units : goal.invariant-units
invariant-units g l = record {
  input : l.units.input ≡ l.fn.units.input;
  keeps : Between g.R.Input.can_give l.fn.units l.units
      (λ p q. Keeps (still_with_ready l.fn.units.input (units_or_failed p) (l.fn.self.first ∷ l.fn.self.others.items) [])
      (still_with_ready l.fn.units.input (units_or_failed q) (l.fn.self.first ∷ l.self.others.items) []));
  first : l.self.first ≡ l.fn.self.first;
  group : IsGroup l.fn.self.first l.self.others.items;
  left : units_left l.units + length l.self.others.items ≤ units_left l.fn.units + length l.fn.self.others.items;
}

abbrev pub decreases-units : goal.decreases-units
decreases-units g l = units_left l.units

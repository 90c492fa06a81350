use Rattle.std.proofs.Common.{◌≡◌, ◌≤◌, None, length, take}
use Rattle.osm_files.specs.Position.{state_at}
use Rattle.osm_files.specs.Units.{unit_at}
use Rattle.osm_files.proofs.ReaderLaws.{HasPassed, left_over}
use Rattle.osm_files.proofs.reading.Reading.next.Given as goal

abbrev pub invariant-units : goal.invariant-units
invariant-units g l = record {
  on : HasPassed g.R.Input.can_give l.initial.self l.self;
  within : l.searched ≤ length l.self.held;
  none : unit_at (state_at l.self) (take l.searched l.self.held) ≡ None;
}

abbrev pub decreases-units : goal.decreases-units
decreases-units g l = left_over l.self

use Rattle.std.proofs.Common.{◌≡◌, ◌-◌, cond, length}
use Rattle.osm_files.specs.Position.{HasRead}
use Rattle.osm_files.proofs.reading.Reading.format.Given as goal

abbrev pub invariant-reads : goal.invariant-reads
invariant-reads g l = record {
  input : l.self.input ≡ l.initial.self.input;
  on : HasRead g.R.Input.can_give l.initial.self l.self;
}

abbrev pub decreases-reads : goal.decreases-reads
decreases-reads g l = cond l.self.ended 0 (8 - length l.self.held)

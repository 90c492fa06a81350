use Rattle.std.proofs.Common.{◌≡◌, false, None, position}
use Rattle.opl_line.specs.Delimiter.{is_line_end}
use Rattle.osm_files.proofs.DroppedLaws.{Follows}
use Rattle.osm_files.proofs.ReaderLaws.{left_over}
use Rattle.osm_files.proofs.reading.Reading.refuse_unknown.Given as goal

abbrev pub invariant-pieces : goal.invariant-pieces
invariant-pieces g l = record {
  follows : Follows g.R.Input.can_give l.initial.self l.self l.front;
  none : position is_line_end l.self.held ≡ None;
  unended : l.self.ended ≡ false;
}

abbrev pub decreases-pieces : goal.decreases-pieces
decreases-pieces g l = left_over l.self

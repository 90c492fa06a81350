use Rattle.std.proofs.Common.{◌≡◌, length}
use Rattle.std.specs.Cmp.Lexicographic.{slice_cmp}
use Rattle.std.specs.Ordering.{nat_cmp}
use Rattle.osm_model.specs.Line.{line}
use Rattle.osm_model.specs.Cursor.{remaining_bytes}
use Rattle.osm_model.proofs.version.Version.line_cmp.Given as goal

abbrev pub invariant-runs : goal.invariant-runs
invariant-runs l = slice_cmp nat_cmp (line l.self) (line l.other) ≡ slice_cmp nat_cmp (remaining_bytes l.line)
    (remaining_bytes l.other_line)

abbrev pub decreases-runs : goal.decreases-runs
decreases-runs l = length (remaining_bytes l.line)

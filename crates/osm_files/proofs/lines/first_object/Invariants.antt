use Rattle.std.proofs.Common.{◌-◌}
use Rattle.osm_files.proofs.FirstLaws.{Passed}
use Rattle.osm_files.proofs.lines.first_object.Given as goal

abbrev pub invariant-fronts : goal.invariant-fronts
invariant-fronts g l = Passed (g.F.ReadAt.bytes l.file) l.start l.end l.offset

abbrev pub decreases-fronts : goal.decreases-fronts
decreases-fronts g l = l.end - l.offset

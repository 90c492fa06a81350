use Rattle.std.proofs.Common.{◌-◌}
use Rattle.osm_files.proofs.LineStarts.{Scanned}
use Rattle.osm_files.proofs.lines.search.Given as goal

abbrev pub invariant-reads : goal.invariant-reads
invariant-reads g l = Scanned (g.F.ReadAt.bytes l.file) l.offset l.reached

abbrev pub decreases-reads : goal.decreases-reads
decreases-reads g l = l.end - l.reached

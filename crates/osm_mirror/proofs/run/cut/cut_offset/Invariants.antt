use Rattle.std.proofs.Common.{◌-◌}
use Rattle.osm_mirror.specs.run.LinesFrom.{AreLinesOf}
use Rattle.osm_mirror.proofs.run_laws.CutLaws.{Halving}
use Rattle.osm_mirror.proofs.run.cut.cut_offset.Given as goal

abbrev pub invariant-halves : goal.invariant-halves
invariant-halves g l = Halving l.bound (g.F.ReadAt.bytes l.file) l.low l.high.offset × AreLinesOf (g.F.ReadAt.bytes l.file) l.high

abbrev pub decreases-halves : goal.decreases-halves
decreases-halves g l = l.high.offset - l.low

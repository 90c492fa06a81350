use Rattle.std.proofs.Common.{◌≤◌}
use Rattle.osm_mirror.specs.run.Bounds.{probe_count}
use Rattle.osm_mirror.specs.run.LinesFrom.{AreLinesOf}
use Rattle.osm_mirror.proofs.run_laws.ProbeLaws.{FindsFrom, HasRoom}
use Rattle.osm_mirror.proofs.run.bounds.probe_lines.Given as goal

abbrev pub invariant-probes : goal.invariant-probes
invariant-probes g l =
    let known = g.F.ReadAt.bytes l.file in
    FindsFrom known l.size l.step l.left l.fn.found.items l.found.items × AreLinesOf known l.lines
    × (l.left ≤ probe_count l.step l.size) × HasRoom l.step l.left l.lines.offset

abbrev pub decreases-probes : goal.decreases-probes
decreases-probes g l = l.left

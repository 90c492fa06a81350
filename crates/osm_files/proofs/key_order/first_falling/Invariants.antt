use Rattle.std.proofs.Common.{◌+◌, ◌-◌, ◌≤◌, ◌<◌}
use Rattle.osm_files.proofs.KeyOrderLaws.{RisesIn}
use Rattle.osm_files.proofs.key_order.first_falling.Given as goal

abbrev pub invariant-windows : goal.invariant-windows
invariant-windows g l = (l.fn.start ≤ l.lines.end) × (l.lines.end - l.fn.start ≤ l.end - l.fn.start) × (0 < l.window)
    × RisesIn (g.F.ReadAt.bytes l.file) l.fn.start l.end l.lines

abbrev pub decreases-windows : goal.decreases-windows
decreases-windows g l = l.end - l.lines.end + (l.end - l.lines.end - l.window)

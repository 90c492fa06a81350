-- proofs/set_order/read_sets/Invariants.antt
use Rattle.std.proofs.Common.{◌-◌, ◌≤◌}
use Rattle.osm_files.proofs.SetOrderLaws.{InWindow}
use Rattle.osm_files.proofs.set_order.read_sets.Given as goal

abbrev pub invariant-parts : goal.invariant-parts
invariant-parts l = (l.sets.end ≤ l.read.end) × (l.read.end ≤ l.end) × InWindow l.window l.sets l.end l.read

abbrev pub decreases-parts : goal.decreases-parts
decreases-parts l = l.end - l.read.end

-- proofs/set_order/order_of_sets/Invariants.antt
use Rattle.std.proofs.Common.{◌≤◌, ◌-◌, length, IfSome}
use Rattle.osm_files.proofs.SetOrderLaws.{SetsTo}
use Rattle.osm_files.proofs.set_order.order_of_sets.Given as goal

abbrev pub invariant-windows : goal.invariant-windows
invariant-windows g l = (l.start ≤ l.sets.end) × (l.sets.end - l.start ≤ l.end - l.start)
    × IfSome (g.F.ReadAt.bytes l.file) (λ all. l.end ≤ length all → SetsTo all l.start l.sets)

abbrev pub decreases-windows : goal.decreases-windows
decreases-windows g l = l.end - l.sets.end

use Rattle.std.proofs.Common.{◌-◌}
use Rattle.osm_merge.specs.Taking.{order_of}
use Rattle.osm_merge.proofs.TakingLaws.{IsHalving}
use Rattle.osm_merge.proofs.taking.count_below.Given as goal

abbrev pub invariant-halves : goal.invariant-halves
invariant-halves l = IsHalving (order_of l.order) l.version l.held.items l.low l.high

abbrev pub decreases-halves : goal.decreases-halves
decreases-halves l = l.high - l.low

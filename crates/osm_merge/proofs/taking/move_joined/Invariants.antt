use Rattle.std.proofs.Common.{◌++◌, vec_capacity}
use Rattle.osm_merge.specs.Taking.{order_of, merge_by}
use Rattle.osm_merge.proofs.TakingLaws.{IsTaking}
use Rattle.osm_merge.proofs.taking.move_joined.Given as goal

abbrev pub invariant-more : goal.invariant-more
invariant-more l =
    IsTaking (order_of l.fn.order) (l.fn.joined.items ++ merge_by (order_of l.fn.order) l.fn.held.items l.fn.more.items) l.joined.items
    l.held.items l.version-iterator.rest.items (vec_capacity l.joined)

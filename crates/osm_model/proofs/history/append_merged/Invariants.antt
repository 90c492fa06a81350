use Rattle.std.proofs.Common.{◌≡◌, ◌+◌, ◌-◌, ◌≤◌, ◌++◌, drop, length}
use Rattle.osm_model.specs.Order.{version_cmp}
use Rattle.osm_model.specs.Merged.{merge}
use Rattle.osm_model.proofs.history.append_merged.Given as goal

abbrev pub invariant-merge : goal.invariant-merge
invariant-merge l = record {
  left_in : l.i ≤ length l.left;
  right_in : l.j ≤ length l.right;
  merged : l.versions.items ++ merge version_cmp (drop l.i l.left) (drop l.j l.right) ≡ l.fn.versions.items
      ++ merge version_cmp l.left l.right;
}

abbrev pub decreases-merge : goal.decreases-merge
decreases-merge l = (length l.left + length l.right) - (l.i + l.j)

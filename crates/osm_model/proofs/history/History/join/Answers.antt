use Rattle.std.proofs.Common.{rules, ◌≡◌}
use Rattle.osm_model.specs.Order.{version_cmp, version_cmp_total}
use Rattle.osm_model.specs.Merged.{merge}
use Rattle.osm_model.proofs.MergedLaws.{sorted_merged}
use Rattle.osm_model.proofs.VersionLaws.{union-view}
use Rattle.osm_model.proofs.history.History.join.Goals as goal

pub invariant_of-result : goal.invariant_of-result
invariant_of-result c =
    let is : c.append_merged.new.versions.items ≡ merge version_cmp c.self.inside.versions.items c.other.inside.versions.items =
    search rules in
    rw is (sorted_merged version_cmp_total _ _ c.self.invariant c.other.invariant)

pub returns : goal.returns
returns c =
    rw (← c.self.view_is, ← c.other.view_is, union-view _ _ c.self.invariant c.other.invariant) (search rules)
